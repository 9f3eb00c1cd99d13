-- R20: that the Rust leaves groups of one out changes nothing, and no group is left out here.
use Rattle.std.specs.Bool.{then_some}
use Rattle.std.specs.Prelude.{if◌then◌else◌, Option, None, Some}
use Prim.Native.Nat.{ℕ, zero, suc, ◌+◌, ◌≤◌, ◌<◌}
use native.Mathlib.Omega.{arith}
use mathlib.Core.Bool.{Bool, true, false, ◌&&◌, not}
use mathlib.Core.List.{List, []}
use mathlib.Core.Path.{◌≡◌, refl, sym, ap, ◌∙◌}
use lib.ListN.{length, get_or}
use borrow.Author.Tests.{ltb-true, le-ltb}
use Rattle.pack.specs.Notation.{◌<ᵇ◌, ◌≤ᵇ◌, concat_below}
use Rattle.pack.specs.Value.{Pgn, no_pgn}
use Rattle.rules.specs.declared.Finding.{Finding}
use Rattle.rules.specs.Search.{latest_below, count_below, ranked}
use Rattle.rules.specs.SearchLaws.{below_suc, latest_is, concat_none}
use Rattle.rules.specs.Variants.{has_match, duplicates, in_group, duplicate_of, variant_at, matchless, group_findings, least_group, check_variants}
use Rattle.rules.proofs.Extremes.{and_left}
use Rattle.rules.proofs.Ranks.{Enumerates, Among, from, of_ones, ranks_enumerate, ranks_enough}

-- ---- counts

count_grows : (p : ℕ → Bool) (n : ℕ) → count_below p n ≤ count_below p (suc n)
count_grows p n = go (p n)
  where
    go : (c : Bool) → count_below p n ≤ (if c then count_below p n + 1 else count_below p n)
    go true = omega arith
    go false = omega arith

count_hit : (p : ℕ → Bool) (n : ℕ) → p n ≡ true → count_below p (suc n) ≡ count_below p n + 1
count_hit p n e = rw e

count_one : (p : ℕ → Bool) (n k : ℕ) → k < n → p k ≡ true → 1 ≤ count_below p n
count_one p zero k h e = absurd (omega arith)
count_one p (suc n) k h e =
    below_suc k n h (λ l. omega (arith, count_one p n k l e, count_grows p n)) (λ q. omega (arith, count_hit p n (ap p (sym q) ∙ e)))

count_two : (p : ℕ → Bool) (n k j : ℕ) → j < k → k < n → p j ≡ true → p k ≡ true → 2 ≤ count_below p n
count_two p zero k j l h d e = absurd (omega arith)
count_two p (suc n) k j l h d e =
    below_suc k n h (λ m. omega (arith, count_two p n k j l m d e, count_grows p n))
    (λ q. omega (arith, count_hit p n (ap p (sym q) ∙ e), count_one p n j (omega (arith, q)) d))

-- with a further condition there are no more
count_fewer : (p q : ℕ → Bool) (n : ℕ) → count_below (λ i. p i && q i) n ≤ count_below p n
count_fewer p q zero = omega arith
count_fewer p q (suc n) = go (p n) (q n) (count_fewer p q n)
  where
    go : (a b : Bool) → count_below (λ i. p i && q i) n ≤ count_below p n
        → (if a && b then count_below (λ i. p i && q i) n + 1 else count_below (λ i. p i && q i) n) ≤ (if a then count_below p n + 1 else count_below p n)
    go true true h = omega (arith, h)
    go true false h = omega (arith, h)
    go false b h = omega (arith, h)

-- ---- "two or more"

module _ (t : ℕ) (pgns : List Pgn) where
  -- how many variants the number has
  abbrev pub variants : (number : ℕ) → ℕ
  variants number = count_below (in_group t pgns number) (length pgns)

  -- a PGN that duplicates another makes two
  lone_variant : (number i : ℕ) → variants number < 2 → i < length pgns → variant_at t pgns number i ≡ []
  unfolding variant_at duplicate_of
  lone_variant number i few l = go (in_group t pgns number i) refl
    where
      same : ℕ → Bool
      same j = in_group t pgns number j && duplicates (get_or pgns j no_pgn) (get_or pgns i no_pgn)

      at : in_group t pgns number i ≡ true → (o : Option ℕ) → latest_below same i ≡ o → duplicate_of t pgns i o ≡ []
      at e None u = refl
      at e (Some j) u =
          let q = latest_is same i j u in
          let other = and_left (in_group t pgns number j) (duplicates (get_or pgns j no_pgn) (get_or pgns i no_pgn)) q.1 in
          absurd (omega (arith, few, count_two (in_group t pgns number) (length pgns) i j q.0 l other e))

      go : (c : Bool) → in_group t pgns number i ≡ c → (if c then duplicate_of t pgns i (latest_below same i) else []) ≡ []
      go true e = at e (latest_below same i) refl
      go false e = refl

  lone_matchless : (number : ℕ) → variants number < 2 → (1 <ᵇ matchless t pgns number) ≡ false
  unfolding matchless
  lone_matchless number few =
      le-ltb 1 (matchless t pgns number)
      (omega (
        arith,
        few,
        count_fewer (in_group t pgns number) (λ i. not (has_match (get_or pgns i no_pgn) (length (get_or pgns i no_pgn).fields)))
            (length pgns),
      ))

  -- a number with fewer than two variants has neither finding
  pub one_variant : (number : ℕ) → variants number < 2 → group_findings t pgns (Some number) ≡ []
  unfolding group_findings
  one_variant number few =
      rw (concat_none (variant_at t pgns number) (length pgns) (λ i l. lone_variant number i few l), lone_matchless number few)

  -- the Rust's `if group.len() < 2 { continue; }`
  abbrev pub of_two_or_more : Option ℕ → List Finding
  of_two_or_more None = []
  of_two_or_more (Some number) = if variants number <ᵇ 2 then [] else group_findings t pgns (Some number)

  same_findings : (number : Option ℕ) → of_two_or_more number ≡ group_findings t pgns number
  unfolding group_findings
  same_findings None = refl
  same_findings (Some number) = go (variants number <ᵇ 2) refl
    where
      go : (c : Bool) → (variants number <ᵇ 2) ≡ c → (if c then [] else group_findings t pgns (Some number)) ≡ group_findings t pgns (Some number)
      go true e = sym (one_variant number (ltb-true (variants number) 2 e))
      go false e = refl

  -- so the rule with that test is the rule without it
  pub two_or_more : concat_below (λ r. of_two_or_more (ranked (least_group t pgns) r)) (length pgns) ≡ check_variants t pgns
  unfolding check_variants
  two_or_more = λ j. concat_below (λ r. same_findings (ranked (least_group t pgns) r) j) (length pgns)

  -- ---- ranks

  -- the number of PGN i, unless it is a fallback
  abbrev pub number_of : (i : ℕ) → Option ℕ
  number_of i = then_some (not (get_or pgns i no_pgn).fallback) (get_or pgns i no_pgn).pgn

  -- The ranks below the number of PGNs give every number that has a group, once and rising; further ranks give none.
  pub variants_ranks : Enumerates (least_group t pgns) (Among (λ i v. number_of i ≡ Some v) (length pgns)) (length pgns)
  unfolding least_group
  variants_ranks =
      ranks_enumerate (least_group t pgns) (Among (λ i v. number_of i ≡ Some v) (length pgns)) (length pgns)
      (of_ones (λ b i. then_some (not (get_or pgns i no_pgn).fallback && (b ≤ᵇ (get_or pgns i no_pgn).pgn)) (get_or pgns i no_pgn).pgn) number_of
      (λ b i. numbered b (get_or pgns i no_pgn).pgn (get_or pgns i no_pgn).fallback) (length pgns))
    where
      numbered : (b number : ℕ) (fallback : Bool) → then_some (not fallback && (b ≤ᵇ number)) number ≡ from b (then_some (not fallback) number)
      numbered b number true = refl
      numbered b number false = refl

  -- so the rule over more ranks is the same
  pub variants_enough : (d : ℕ) → concat_below (λ r. group_findings t pgns (ranked (least_group t pgns) r)) (length pgns + d) ≡ check_variants t pgns
  unfolding check_variants group_findings
  variants_enough d =
      ranks_enough (least_group t pgns) (Among (λ i v. number_of i ≡ Some v) (length pgns)) (length pgns) variants_ranks (group_findings t pgns) refl d
