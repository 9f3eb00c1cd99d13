-- What it says of a field that R08, R13, R15, R43 and R44 report no error of it: none of the stops 3 to 7 and 9 comes of it by the place.
use Rattle.std.specs.Prelude.{is_some}
use Rattle.std.specs.Prelude.{◌==◌, if◌then◌else◌}
use Prim.Native.Nat.{ℕ, zero, suc, ◌+◌, ◌≤◌, ◌<◌}
use native.Mathlib.Omega.{arith}
use native.Mathlib.Decide.{ℕ_discrete}
use mathlib.Core.Path.{◌≡◌, refl, sym, ◌∙◌}
use mathlib.Core.Bool.{Bool, true, false, not, ◌&&◌, ◌||◌, false≢true}
use mathlib.Core.List.{[], ◌∷◌}
use Rattle.std.specs.Prelude.{Option, None, Some}
use lib.ListN.{length}
use lib.Dec.{leb, eqb}
use borrow.Author.Tests.{ltb-true, leb-true, leb-false, eqb-true, not-false, lt-ltb, le-leb}
use Rattle.pack.specs.Notation.{◌≐◌}
use Rattle.pack.specs.Value.{Bytes, Entry, Reference, Field, Repeating, Pgn, Pack, field_at, set_place, lookup_at, entry_at}
use Rattle.rules.specs.SearchLaws.{first_is, latest_is}
use Rattle.rules.specs.Search.{any_below, first_below}
use Rattle.rules.specs.Findings.{pgn_error, lookup_error, report_if}
use Rattle.rules.specs.Model.{lookup_ref, find_lookup, target, fieldtypes}
use Rattle.rules.specs.LookupWiring.{is_fieldtype, lookup_found_at, lookup_ref_at, nested_lookup_at, fieldtype_entry_at, check_nested_refs}
use Rattle.rules.specs.MatchValues.{resolved_at, match_value_at}
use Rattle.rules.specs.BitLengthField.{variable_binary, bit_length_target_at, bit_length_field_at}
use Rattle.rules.specs.Continues.{holds_order, place_number, set_of, continued_at, continued_found_at, continues_at}
use Rattle.rules.specs.TrailingZero.{starts_behind, fixed, trailing_zero_target_at, trailing_zero_at}
use Rattle.rules.specs.Texts.{DECIMAL}
use Rattle.rules.specs.Clean.{Clean, clean_in_turn, clean_below, clean_if}
use Rattle.walk.specs.Layout.{set_or_empty, layout, sets_hold}
use Rattle.walk.specs.Stops.{is_missing, name_of, lookup_missing, unfit, match_unfit, names_missing, entries_name_missing, lookup_names_missing}
use Rattle.walk.specs.Stops.{reference_names_missing, lacks}
use Rattle.walk.specs.ByPlace.{placed}
use Rattle.walk.proofs.Tests.{and_l, and_r, and_i, or_l, or_r, or_i, every_e, none_below, Latest, latest_from}
use Rattle.walk.proofs.Clean.{clean_then, clean_else}
use Rattle.walk.proofs.SetFacts.{layout_length, layout_at, Holds, short, placed_i, Good}

-- a first index stays the first where more are looked at
first_more : (f : ℕ → Bool) (k n j : ℕ) → first_below f k ≡ Some j → k ≤ n → first_below f n ≡ Some j
first_more f k zero j e l = let z : k ≡ 0 = omega arith in rw z at e
first_more f k (suc n) j e l = go (ℕ_discrete k (suc n)) (first_more f k n j e)
  where
    go : Dec (k ≡ suc n) → (k ≤ n → first_below f n ≡ Some j) → first_below f (suc n) ≡ Some j
    go (yes q) r = rw q at e
    go (no q) r = rw (r (omega arith))

-- STOP 3, by R08
module _ (P : Pack) (t i k : ℕ) (f : Field) where
  lookup_there : (x : Option Reference) → Clean (lookup_ref_at P.lookups t i k f x) → is_missing P (name_of x) ≡ false
  unfolding lookup_ref_at lookup_found_at is_missing
  lookup_there None e = refl
  lookup_there (Some r) e = go (find_lookup P.lookups r.name) refl
    where
      go : (l : Option ℕ) → find_lookup P.lookups r.name ≡ l → is_missing P (Some r.name) ≡ false
      go None q = absurd (false≢true (rw (q, lookup_ref_at) at e))
      go (Some l) q = rw (q, is_missing)

  pub no_stop_3 : Clean (lookup_ref_at P.lookups t i k f (lookup_ref f)) → lookup_missing P f ≡ false
  unfolding lookup_missing
  no_stop_3 e = lookup_there (lookup_ref f) e

-- STOP 4, by R13
fits_bits : (t i k bits : ℕ) (x : Option ℕ) → Clean (resolved_at t i k bits x) → unfit bits x ≡ false
unfolding resolved_at unfit
fits_bits t i k bits None e = absurd (false≢true e)
fits_bits t i k bits (Some v) e = clean_if _ _ refl e

pub no_stop_4 : (P : Pack) (t i : ℕ) (p : Pgn) (k : ℕ) → Clean (match_value_at P.lookups t i p k) → match_unfit P (field_at p k) ≡ false
unfolding match_value_at match_unfit
no_stop_4 P t i p k e = go (is_some (field_at p k).match) refl
  where
    go : (b : Bool) → is_some (field_at p k).match ≡ b → match_unfit P (field_at p k) ≡ false
    go false q = rw (q, match_unfit)
    go true q = rw (q, match_unfit) (fits_bits t i k _ _ (clean_then (is_some (field_at p k).match) _ _ q e))

-- STOP 5, by R08 of every lookup
module _ (P : Pack) where
  nested_there : (l e : ℕ) (x : Option Bytes) → Clean (nested_lookup_at P.lookups l e x) → is_missing P x ≡ false
  unfolding nested_lookup_at is_missing
  nested_there l e None c = refl
  nested_there l e (Some name) c = clean_if _ _ refl c

  names_there : (l e : ℕ) (x : Entry) → Clean (fieldtype_entry_at P l e x) → names_missing P x ≡ false
  unfolding fieldtype_entry_at names_missing
  names_there l e x c =
      let unknown = not (is_fieldtype P.fieldtypes x.fieldtype) in
      let parts = clean_in_turn (report_if unknown (lookup_error 8 6 l e 0)) (nested_lookup_at P.lookups l e x.nested ∷ []) c in
      or_i unknown _ (clean_if unknown (lookup_error 8 6 l e 0) refl parts.0) (nested_there l e x.nested parts.1.0)

  and_none : (a b : Bool) → b ≡ false → (a && b) ≡ false
  and_none true b e = e
  and_none false b e = refl

  pub no_stop_5 : ((l : ℕ) → l < length P.lookups → Clean (check_nested_refs P l (lookup_at P.lookups l))) → (x : Option Reference) (reading : ℕ)
      → reference_names_missing P x reading ≡ false
  unfolding check_nested_refs reference_names_missing lookup_names_missing entries_name_missing find_lookup
  no_stop_5 c None reading = refl
  no_stop_5 c (Some r) reading = go (find_lookup P.lookups r.name) refl
    where
      go : (x : Option ℕ) → find_lookup P.lookups r.name ≡ x → lookup_names_missing P (find_lookup P.lookups r.name) reading ≡ false
      go None q = rw (q, lookup_names_missing)
      go (Some l) q =
          let es = fieldtypes (lookup_at P.lookups l) in
          let c' = c l (first_is _ _ l q).0 in
          rw (q, lookup_names_missing, entries_name_missing)
          (none_below _ (length es)
          (λ e h. and_none (eqb (entry_at es e).value reading) _ (names_there l e (entry_at es e) (clean_below _ (length es) c' e h))))

-- A NEEDED FIELD of the PGN p, by the place
module _ (p : Pgn) where
  pub has : (o j : ℕ) (id : Bytes) → target p id ≡ Some j → placed (layout p) o j ≡ true → lacks p (placed (layout p) o) (Some id) ≡ false
  unfolding lacks
  has o j id q e = rw (q, lacks, e)

  -- STOP 6, by R15 and what is held
  pub no_stop_6 : (t i k : ℕ) (x : Option Bytes) → Clean (bit_length_field_at t i p k x)
      → ((id : Bytes) (j : ℕ) → x ≡ Some id → target p id ≡ Some j → sets_hold (layout p) (suc j) (suc k) ≡ true)
      → lacks p (placed (layout p) (suc k)) x ≡ false
  unfolding bit_length_field_at bit_length_target_at lacks placed
  no_stop_6 t i k None e h = refl
  no_stop_6 t i k (Some id) e h = go (target p id) refl
    where
      a : (not (variable_binary (field_at p k)) ≡ false) × Clean (bit_length_target_at t i p k (target p id))
      a = clean_else (not (variable_binary (field_at p k))) _ _ refl e

      go : (x : Option ℕ) → target p id ≡ x → lacks p (placed (layout p) (suc k)) (Some id) ≡ false
      go None q = absurd (false≢true (rw q at a.1))
      go (Some j) q =
          let b = rw q at a.1 in
          let l = leb-false k j (clean_else (leb k j) _ _ refl b).0 in
          has (suc k) j id q (and_i _ _ (lt-ltb (suc j) (suc k) (omega arith)) (h id j refl q))

-- an order in a set of the PGN, as the rules see it and as the walk does
abbrev In : Option Repeating → ℕ → Type 0
In x o = ((set_or_empty x).start ≤ o) × (o < (set_or_empty x).start + (set_or_empty x).count)

order_e : (x : Option Repeating) (o : ℕ) → holds_order x o ≡ true → In x o
order_e None o e = absurd (false≢true e)
order_e (Some r) o e = (leb-true _ _ (and_l _ _ e), ltb-true _ _ (and_r (leb r.start o) _ e))

order_i : (x : Option Repeating) (o : ℕ) → In x o → holds_order x o ≡ true
order_i None o h = absurd (omega arith)
order_i (Some r) o h = and_i _ _ (le-leb _ _ h.0) (lt-ltb _ _ h.1)

-- the set at place n
module _ (p : Pgn) (n : ℕ) where
  in_place : (o : ℕ) → Holds (layout p) n o → In (set_place p n) o
  in_place o h = rw (← layout_at p n) h

  has_place : (o : ℕ) → Holds (layout p) n o → n < length p.sets
  has_place o h = omega (arith, layout_length p, short (layout p) n o h)

  holds_place : (j : ℕ) → holds_order (set_place p n) (j + 1) ≡ true → Holds (layout p) n (suc j)
  holds_place j e = let a : Holds (layout p) n (j + 1) = rw (← layout_at p n) at (order_e (set_place p n) (j + 1) e) in omega arith

place_injective : (x y : Option ℕ) → place_number x ≡ place_number y → x ≡ y
place_injective None None q = refl
place_injective None (Some b) q = absurd (omega arith)
place_injective (Some a) None q = absurd (omega arith)
place_injective (Some a) (Some b) q = let e : a ≡ b = omega arith in rw e

-- STOP 7, by R43: where two fields are of one set, each set that holds the first holds the second
module _ (p : Pgn) (G : Good (layout p)) where
  -- Past stop 1. Let m be the highest set that holds the field j, and so the highest that holds the field k. A lower set n that holds j
  -- shares j's order with m. So m lies inside n (`Good.inside`), and n holds all orders of m, that of k with them.
  one_set : (j k : ℕ) → set_of p j ≡ set_of p k → (n : ℕ) → Holds (layout p) n (suc j) → Holds (layout p) n (suc k)
  unfolding set_of
  one_set j k q n h = go (ℕ_discrete n m)
    where
      highest : Latest (λ n. holds_order (set_place p n) (j + 1)) (length p.sets) n
      highest = latest_from _ (length p.sets) n (has_place p n (suc j) h) (order_i (set_place p n) (j + 1) (in_place p n (j + 1) (omega arith)))

      m : ℕ
      m = highest.at

      holds_j : Holds (layout p) m (suc j)
      holds_j = holds_place p m j (latest_is _ (length p.sets) m highest.is).1

      holds_k : Holds (layout p) m (suc k)
      holds_k = holds_place p m k (latest_is _ (length p.sets) m (sym (place_injective _ _ q) ∙ highest.is)).1

      go : Dec (n ≡ m) → Holds (layout p) n (suc k)
      go (yes e) = rw e holds_k
      go (no e) = let l : n < m = omega (arith, highest.from) in omega (arith, holds_k, G.inside n m (suc j) l h holds_j)

  pub no_stop_7 : (P : Pack) (t i k : ℕ) → k < length p.fields → (x : Option Bytes) → Clean (continues_at P.fieldtypes t i p k x)
      → lacks p (placed (layout p) (suc k)) x ≡ false
  unfolding continues_at continued_found_at continued_at lacks target
  no_stop_7 P t i k l None e = refl
  no_stop_7 P t i k l (Some id) e = go (first_below (λ j. (field_at p j).id ≐ id) k) refl
    where
      go : (x : Option ℕ) → first_below (λ j. (field_at p j).id ≐ id) k ≡ x → lacks p (placed (layout p) (suc k)) (Some id) ≡ false
      go None q = absurd (false≢true (rw (q, continues_at) at e))
      go (Some j) q =
          let c : Clean (continued_at P.fieldtypes t i p k (field_at p k) id j (field_at p j)) = rw (q, continues_at) at e in
          let other = not (set_of p j == set_of p k) in
          let parts = clean_in_turn (if other then pgn_error 43 2 t i k j ∷ [] else _) (_ ∷ _ ∷ _ ∷ _ ∷ _ ∷ []) c in
          let s = eqb-true (set_of p j) (set_of p k) (not-false _ (clean_else other (pgn_error 43 2 t i k j) _ refl parts.0).0) in
          let m = (first_is _ k j q).0 in
          has p (suc k) j id (first_more _ k (length p.fields) j q (omega arith)) (placed_i (layout p) (suc k) j (omega arith) (one_set j k s))

-- STOP 9, by R44: no set begins before the target
behind : (x : Option Repeating) (o : ℕ) → starts_behind x o ≡ true → In x o → ⊥
behind None o e h = omega arith
behind (Some r) o e h = omega (arith, ltb-true o r.start e)

module _ (p : Pgn) where
  in_no_set : (j : ℕ) → fixed p j ≡ true → (n : ℕ) → Holds (layout p) n (suc j) → ⊥
  unfolding fixed
  in_no_set j e n h =
      let narrow = not (any_below (λ k. ((field_at p k).res_bits == 0) || (field_at p k).proprietary) j) in
      let each = every_e (λ n. starts_behind (set_place p n) (j + 1)) (length p.sets) (and_r narrow _ e) n (has_place p n (suc j) h) in
      behind (set_place p n) (j + 1) each (in_place p n (j + 1) (omega arith))

  pub no_stop_9 : (P : Pack) (t i k : ℕ) (x : Option Bytes) → Clean (trailing_zero_at P.fieldtypes t i p k x) → lacks p (placed (layout p) (suc k)) x ≡ false
  unfolding trailing_zero_at trailing_zero_target_at lacks
  no_stop_9 P t i k None e = refl
  no_stop_9 P t i k (Some id) e = go (target p id) refl
    where
      go : (x : Option ℕ) → target p id ≡ x → lacks p (placed (layout p) (suc k)) (Some id) ≡ false
      go None q = absurd (false≢true (rw (q, trailing_zero_at) at (clean_else (not ((field_at p k).type ≐ DECIMAL)) _ _ refl e).1))
      go (Some j) q =
          let a = rw (q, trailing_zero_at) at (clean_else (not ((field_at p k).type ≐ DECIMAL)) _ _ refl e).1 in
          let b = (clean_else (leb k j || not (fixed p j)) _ _ refl a).0 in
          let l = leb-false k j (or_l _ _ b) in
          has p (suc k) j id q (placed_i (layout p) (suc k) j (omega arith) (λ n h. absurd (in_no_set j (not-false _ (or_r (leb k j) _ b)) n h)))
