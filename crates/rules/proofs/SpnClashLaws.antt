-- Where no two fields of the J1939 tree have one name and different SPNs, no two SPNs have one name: R24 cause 2 reports nothing.
use Rattle.std.specs.Prelude.{is_some, Option, None, Some}
use Prim.Native.Nat.{ℕ, zero, suc, ◌+◌, ◌≤◌, ◌<◌}
use native.Mathlib.Omega.{arith}
use mathlib.Core.Bool.{Bool, true, false, ◌&&◌, false≢true}
use mathlib.Core.List.{List, []}
use Rattle.std.proofs.lemmas.Option.{none-some}
use mathlib.Core.Path.{◌≡◌, refl, sym, ap, ◌∙◌}
use lib.ListN.{length, get_or}
use borrow.Author.Tests.{ltb-true, leb-true, leb-false, ne_eqb}
use Rattle.pack.specs.Notation.{◌<ᵇ◌, ◌≤ᵇ◌, ◌≐◌}
use Rattle.pack.specs.Value.{Bytes, Pgn, no_pgn, field_at}
use Rattle.rules.specs.PlaceLaws.{same_refl, same_eq}
use Rattle.rules.specs.Search.{next_rank, ranked, sum_below}
use Rattle.rules.specs.SearchLaws.{any_hit, concat_none}
use Rattle.rules.specs.SpnNames.{spn_pgn, spn_name, names_spn, earlier_if, earlier_in, earlier_spn, clash_with, clash_of, least_spn, check_spn_names}
use Rattle.rules.specs.SpnClashes.{other_spn, other_in, other_among, clash_from, may_clash}
use Rattle.rules.proofs.Candidates.{names_name, named}
use Rattle.rules.proofs.Extremes.{max_is, optional_is, and_left, and_right}
use Rattle.rules.proofs.SpnLaws.{least_named}

-- field k of PGN i carries the SPN under the name
record Carries (pgns : List Pgn) (name : Bytes) (spn i k : ℕ) : Type 0 where
  in_tree : i < length pgns
  in_pgn : k < length (get_or pgns i no_pgn).fields
  carries : (field_at (get_or pgns i no_pgn) k).spn ≡ Some spn
  names : (field_at (get_or pgns i no_pgn) k).name ≡ name

module _ (pgns : List Pgn) where
  -- of two such fields the later one's PGN finds the other
  met : (name : Bytes) (s e i k j h : ℕ) → Carries pgns name s i k → Carries pgns name e j h → (e ≡ s → ⊥) → j ≤ i → may_clash pgns ≡ true
  unfolding may_clash clash_from other_in
  met name s e i k j h a b d l =
      let p = get_or pgns i no_pgn in
      let q = get_or pgns j no_pgn in
      let own : ((field_at q h).name ≐ (field_at p k).name) ≡ true = ap (λ (t : Bytes). t ≐ (field_at p k).name) (b.names ∙ sym a.names)
      ∙ same_refl (field_at p k).name in
      let hit : other_spn (field_at p k).name s (field_at q h).name (field_at q h).spn ≡ true
      = ap (other_spn (field_at p k).name s (field_at q h).name) b.carries ∙ (rw (own, ne_eqb e s d)) in
      let inner = any_hit (λ x. other_spn (field_at p k).name s (field_at q x).name (field_at q x).spn) (length q.fields) h b.in_pgn hit in
      let among : other_among pgns (i + 1) (field_at p k).name (field_at p k).spn ≡ true =
      ap (other_among pgns (i + 1) (field_at p k).name) a.carries
      ∙ any_hit (λ x. other_in (field_at p k).name s (get_or pgns x no_pgn)) (i + 1) j (omega arith) inner in
      let from = any_hit (λ x. other_among pgns (i + 1) (field_at p x).name (field_at p x).spn) (length p.fields) k a.in_pgn among in
      any_hit (clash_from pgns) (length pgns) i a.in_tree from

  met_either : (name : Bytes) (s e i k j h : ℕ) → Carries pgns name s i k → Carries pgns name e j h → e < s → may_clash pgns ≡ true
  met_either name s e i k j h a b l = go (j ≤ᵇ i) refl
    where
      go : (c : Bool) → (j ≤ᵇ i) ≡ c → may_clash pgns ≡ true
      go true u = met name s e i k j h a b (λ q. omega (arith, l, q)) (leb-true j i u)
      go false u = met name e s j h i k b a (λ q. omega (arith, l, q)) (omega (arith, leb-false j i u))

  -- the field that has the earlier one
  earlier_carries : (s i k e : ℕ) (o : Option ℕ) → earlier_if pgns s i k o ≡ Some e
      → (o ≡ Some e) × (e < s) × ((field_at (get_or pgns i no_pgn) k).name ≡ spn_name pgns s)
  earlier_carries s i k e None h = absurd (none-some e h)
  earlier_carries s i k e (Some x) h =
      let own = (field_at (get_or pgns i no_pgn) k).name in
      let q = optional_is ((x <ᵇ s) && (own ≐ spn_name pgns s) && names_spn pgns x i k) x e h in
      let t = and_left ((x <ᵇ s) && (own ≐ spn_name pgns s)) (names_spn pgns x i k) q.0 in
      let l : x < s = ltb-true x s (and_left (x <ᵇ s) (own ≐ spn_name pgns s) t) in
      (ap Some q.1, omega (arith, l, q.1), same_eq own (spn_name pgns s) (and_right (x <ᵇ s) (own ≐ spn_name pgns s) t))

  no_earlier : may_clash pgns ≡ false → (s : ℕ) → is_some (spn_pgn pgns s) ≡ true → earlier_spn pgns s ≡ None
  unfolding earlier_spn earlier_in
  no_earlier w s g = go (earlier_spn pgns s) refl
    where
      go : (o : Option ℕ) → earlier_spn pgns s ≡ o → o ≡ None
      go None u = refl
      go (Some e) u =
          let i = max_is (earlier_in pgns s) (length pgns) e u in
          let p = get_or pgns i.index no_pgn in
          let k = max_is (λ k. earlier_if pgns s i.index k (field_at p k).spn) (length p.fields) e i.is in
          let c = earlier_carries s i.index k.index e (field_at p k.index).spn k.is in
          let n = named pgns s g in
          let a : Carries pgns (spn_name pgns s) s n.pgn n.field
          = record {
            in_tree = n.in_tree;
            in_pgn = n.in_pgn;
            carries = n.carries;
            names = sym (names_name pgns s n.pgn n.field n.names);
          } in
          let b : Carries pgns (spn_name pgns s) e i.index k.index = record { in_tree = i.below; in_pgn = k.below; carries = c.0; names = c.2 } in
          absurd (false≢true (sym w ∙ met_either (spn_name pgns s) s e n.pgn n.field i.index k.index a b c.1))

  ranked_named : (r s : ℕ) → ranked (least_spn pgns) r ≡ Some s → is_some (spn_pgn pgns s) ≡ true
  ranked_named zero s h = least_named pgns 0 s h
  ranked_named (suc r) s h = go (ranked (least_spn pgns) r) h
    where
      go : (o : Option ℕ) → next_rank (least_spn pgns) o ≡ Some s → is_some (spn_pgn pgns s) ≡ true
      go None u = absurd (none-some s u)
      go (Some b) u = least_named pgns (b + 1) s u

  pub no_clash : may_clash pgns ≡ false → check_spn_names pgns ≡ []
  unfolding check_spn_names clash_with
  no_clash w =
      concat_none (λ r. clash_of pgns (ranked (least_spn pgns) r)) (sum_below (λ i. length (get_or pgns i no_pgn).fields) (length pgns))
      (λ r l. go r (ranked (least_spn pgns) r) refl)
    where
      go : (r : ℕ) (o : Option ℕ) → ranked (least_spn pgns) r ≡ o → clash_of pgns o ≡ []
      go r None u = refl
      go r (Some s) u = ap (clash_with pgns s) (no_earlier w s (ranked_named r s u))
