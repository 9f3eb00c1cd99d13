-- Of the PGNs of a pack every reading of "a countField lies in no nonempty set, or in set 1 for a nested set 2" in specs/HeldReadings.antt implies
-- the widest.
use Prim.Native.Nat.{ℕ, zero, suc, ◌≤◌, ◌<◌}
use native.Mathlib.Omega.{arith}
use mathlib.Core.Path.{◌≡◌, refl, sym, ◌∙◌}
use mathlib.Core.Bool.{Bool, true, false, not, ◌&&◌, ◌||◌, false≢true}
use mathlib.Core.List.{List}
use Rattle.std.specs.Prelude.{Option, None, Some}
use lib.ListN.{length}
use lib.Dec.{ltb, leb, eqb}
use Rattle.pack.specs.Meaning.{pack_of}
use Rattle.pack.specs.Value.{Pgn, Pack, pgn_at}
use Rattle.pack.proofs.Sets.{sets_two}
use Rattle.rules.specs.SearchLaws.{any_hit, or_right}
use Rattle.rules.specs.Search.{any_below}
use Rattle.walk.specs.Layout.{Layout, layout, set_at, nonempty, holds, nested_in}
use Rattle.walk.specs.Held.{shares_held, count_field_held, count_fields_held, held_by, held}
use Rattle.walk.specs.HeldReadings.{of_every_set, of_nonempty_sets, in_no_set, field_in, may_hold}
use Rattle.walk.specs.HeldReadings.{count_field_letter, count_field_where_nested, count_field_widest, widest_count_fields_held}
use Rattle.walk.specs.HeldReadings.{held_nonempty, held_letter, held_letter_nonempty, held_where_nested, held_widest}
use Rattle.walk.proofs.Tests.{and_l, and_r, imp_e, imp_i, every_e, every_i, and_4}
use Rattle.walk.proofs.SetFacts.{layout_length}

or_left : (a b : Bool) → a ≡ true → (a || b) ≡ true
or_left true b e = refl
or_left false b e = absurd (false≢true e)

-- ---- of one countField

-- what `held` asks
held_one : (L : Layout) (k : ℕ) (x : Option ℕ) → count_field_held L k x ≡ true → count_field_widest L k x ≡ true
unfolding count_field_held count_field_widest
held_one L k None e = refl
held_one L k (Some c) e =
    every_i (λ j. not (field_in L j c) || may_hold L j k) (length L.sets) (λ j l. imp_i (field_in L j c) (may_hold L j k) (λ lies. may j l lies))
  where
    may : (j : ℕ) → j < length L.sets → field_in L j c ≡ true → may_hold L j k ≡ true
    may j l lies =
        let asked = every_e (λ j. not (holds L j c) || nested_in L j k) (length L.sets) e j l in
        let nests = imp_e (holds L j c) (nested_in L j k) asked (and_r (ltb 0 c && leb c (length L.fields)) _ lies) in
        or_left (eqb j k || nested_in L j k) _ (or_right (eqb j k) _ nests)

letter_where_nested : (L : Layout) (k : ℕ) (x : Option ℕ) → count_field_letter L k x ≡ true → count_field_where_nested L k x ≡ true
letter_where_nested L k None e = refl
letter_where_nested L k (Some c) e = go (in_no_set L c) ((set_at L 1).nested && holds L 0 c) e
  where
    go : (outside inside : Bool) → (outside || eqb k 1 && inside) ≡ true → (outside || inside) ≡ true
    go true inside e = refl
    go false inside e = and_r (eqb k 1) inside e

-- the readings that speak of set 1 and set 2: of no more than two sets
module _ (L : Layout) (two : length L.sets ≤ 2) where
  -- where set 2 is nested
  nested_may : (set_at L 1).nested ≡ true → (j k : ℕ) → j < length L.sets → k < length L.sets → may_hold L j k ≡ true
  unfolding nested_in
  nested_may e zero zero l m = refl
  nested_may e zero (suc zero) l m = rw (e, nested_in)
  nested_may e (suc zero) zero l m = rw (e, nested_in)
  nested_may e (suc zero) (suc zero) l m = refl
  nested_may e (suc (suc j)) k l m = absurd (omega arith)
  nested_may e zero (suc (suc k)) l m = absurd (omega arith)
  nested_may e (suc zero) (suc (suc k)) l m = absurd (omega arith)

  where_nested_one : (k : ℕ) → k < length L.sets → (x : Option ℕ) → count_field_where_nested L k x ≡ true → count_field_widest L k x ≡ true
  unfolding count_field_widest
  where_nested_one k m None e = refl
  where_nested_one k m (Some c) e = every_i (λ j. not (field_in L j c) || may_hold L j k) (length L.sets)
      (λ j l. imp_i (field_in L j c) (may_hold L j k) (λ lies. may j l (and_r (ltb 0 c && leb c (length L.fields)) _ lies)))
    where
      may : (j : ℕ) → j < length L.sets → holds L j c ≡ true → may_hold L j k ≡ true
      may j l lies = go (any_below (λ j. holds L j c) (length L.sets)) refl e
        where
          go : (b : Bool) → any_below (λ j. holds L j c) (length L.sets) ≡ b → (not b || (set_at L 1).nested && holds L 0 c) ≡ true → may_hold L j k ≡ true
          go true q h = nested_may (and_l (set_at L 1).nested _ h) j k l m
          go false q h = absurd (false≢true (sym q ∙ any_hit (λ j. holds L j c) (length L.sets) j l lies))

-- ---- of all, and what is held

-- what is asked of one countField of a set of the layout implies what the widest reading asks of it
abbrev Implies_widest : (Layout → ℕ → Option ℕ → Bool) → Layout → Type 0
Implies_widest lies L = (k : ℕ) → k < length L.sets → (x : Option ℕ) → lies L k x ≡ true → count_field_widest L k x ≡ true

module _ (lies : Layout → ℕ → Option ℕ → Bool) (L : Layout) (one : Implies_widest lies L) where
  abbrev asked : ℕ → Bool
  asked k = not (nonempty L k) || count_field_widest L k (set_at L k).count_field

  counts_nonempty : of_nonempty_sets lies L ≡ true → widest_count_fields_held L ≡ true
  unfolding widest_count_fields_held
  counts_nonempty e = every_i asked (length L.sets) (λ k l. imp_i (nonempty L k) _ (λ q.
      let each = every_e (λ k. not (nonempty L k) || lies L k (set_at L k).count_field) (length L.sets) e k l in
      one k l _ (imp_e (nonempty L k) _ each q)))

  counts_every : of_every_set lies L ≡ true → widest_count_fields_held L ≡ true
  unfolding widest_count_fields_held
  counts_every e = every_i asked (length L.sets) (λ k l. imp_i (nonempty L k) _ (λ q.
      one k l _ (every_e (λ k. lies L k (set_at L k).count_field) (length L.sets) e k l)))

module _ (lies : Layout → ℕ → Option ℕ → Bool) (P : Pack) (p : Pgn) (one : Implies_widest lies (layout p)) where
  by_nonempty : held_by (of_nonempty_sets lies) P p ≡ true → held_widest P p ≡ true
  unfolding held_widest
  by_nonempty e =
      let h = and_4 (shares_held (layout p)) (of_nonempty_sets lies (layout p)) _ _ e in
      rw (h.0, counts_nonempty lies (layout p) one h.1, h.2, h.3)

  by_every : held_by (of_every_set lies) P p ≡ true → held_widest P p ≡ true
  unfolding held_widest
  by_every e =
      let h = and_4 (shares_held (layout p)) (of_every_set lies (layout p)) _ _ e in
      rw (h.0, counts_every lies (layout p) one h.1, h.2, h.3)

pub held_implies_widest : (P : Pack) (p : Pgn) → held P p ≡ true → held_widest P p ≡ true
unfolding held count_fields_held
held_implies_widest P p = by_every count_field_held P p (λ k l. held_one (layout p) k)

pub nonempty_implies_widest : (P : Pack) (p : Pgn) → held_nonempty P p ≡ true → held_widest P p ≡ true
unfolding held_nonempty
nonempty_implies_widest P p = by_nonempty count_field_held P p (λ k l. held_one (layout p) k)

module _ (P : Pack) (p : Pgn) (two : length p.sets ≤ 2) where
  where_nested : Implies_widest count_field_where_nested (layout p)
  where_nested = where_nested_one (layout p) (omega (arith, layout_length p))

  letter : Implies_widest count_field_letter (layout p)
  letter k l x e = where_nested k l x (letter_where_nested (layout p) k x e)

  pub letter_implies_widest : held_letter P p ≡ true → held_widest P p ≡ true
  unfolding held_letter
  letter_implies_widest = by_every count_field_letter P p letter

  pub letter_nonempty_implies_widest : held_letter_nonempty P p ≡ true → held_widest P p ≡ true
  unfolding held_letter_nonempty
  letter_nonempty_implies_widest = by_nonempty count_field_letter P p letter

  pub where_nested_implies_widest : held_where_nested P p ≡ true → held_widest P p ≡ true
  unfolding held_where_nested
  where_nested_implies_widest = by_nonempty count_field_where_nested P p where_nested

-- of a PGN of a pack
module _ (s : List ℕ) (t i : ℕ) where
  pub letter_of_pack : held_letter (pack_of s) (pgn_at (pack_of s) t i) ≡ true → held_widest (pack_of s) (pgn_at (pack_of s) t i) ≡ true
  letter_of_pack = letter_implies_widest (pack_of s) (pgn_at (pack_of s) t i) (sets_two s t i)

  pub letter_nonempty_of_pack : held_letter_nonempty (pack_of s) (pgn_at (pack_of s) t i) ≡ true → held_widest (pack_of s) (pgn_at (pack_of s) t i) ≡ true
  letter_nonempty_of_pack = letter_nonempty_implies_widest (pack_of s) (pgn_at (pack_of s) t i) (sets_two s t i)

  pub where_nested_of_pack : held_where_nested (pack_of s) (pgn_at (pack_of s) t i) ≡ true → held_widest (pack_of s) (pgn_at (pack_of s) t i) ≡ true
  where_nested_of_pack = where_nested_implies_widest (pack_of s) (pgn_at (pack_of s) t i) (sets_two s t i)
