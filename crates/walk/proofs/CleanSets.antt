-- What it says of a PGN's sets that R05 reports no error.
use Rattle.std.specs.Prelude.{◌==◌, if◌then◌else◌}
use Prim.Native.Nat.{ℕ, zero, suc, ◌+◌, ◌-◌, ◌≤◌, ◌<◌}
use native.Mathlib.Omega.{arith}
use mathlib.Core.Path.{◌≡◌, refl}
use mathlib.Core.Bool.{Bool, true, false, ◌&&◌, ◌||◌, false≢true}
use mathlib.Core.List.{[], ◌∷◌}
use Rattle.std.specs.Prelude.{Option, None, Some}
use lib.ListN.{length}
use lib.Dec.{ltb, leb, eqb}
use borrow.Author.Tests.{ltb-true, ltb-false, leb-true, leb-false, eqb-false, lt-ltb, le-leb, ne_eqb}
use Rattle.pack.specs.Value.{Repeating, Pgn, set_place}
use Rattle.rules.specs.Repeating.{set_bounds, set_count_field, set_nesting, check_set, set_before, check_repeating}
use Rattle.rules.specs.Clean.{Clean, clean_below, clean_in_turn, clean_if}
use Rattle.walk.specs.Layout.{set_or_empty, layout, set_at, inside_previous}
use Rattle.walk.proofs.Tests.{and_l, and_r, and_i, or_l, or_r}
use Rattle.walk.proofs.Clean.{clean_then, clean_else}
use Rattle.walk.proofs.HeldSets.{Fits}
use Rattle.walk.proofs.SetFacts.{Holds, short, layout_length, layout_at}

-- of a nonempty set: an absent one, taken as empty, encloses none
abbrev Inside : (outer r : Repeating) → Type 0
Inside outer r = (outer.start < r.start) × (r.start + r.count ≤ outer.start + outer.count)

record Silent (fields : ℕ) (outer r : Repeating) : Type 0 where
  low : 1 ≤ r.start
  high : r.start + r.count ≤ suc fields
  count : (c : ℕ) → r.count_field ≡ Some c → (1 ≤ c) × (c < r.start)
  nests : r.nested ≡ true → Inside outer r

module _ (t i n : ℕ) where
  bounds : (fields : ℕ) (r : Repeating) → Clean (set_bounds t i n fields r) → (1 ≤ r.start) × (r.start + r.count ≤ suc fields)
  unfolding set_bounds
  bounds fields r e =
      let a = clean_else (r.start == 0) _ _ refl e in
      let z = eqb-false r.start 0 a.0 in
      let b = ltb-false fields (r.start - 1 + r.count) (clean_if _ _ refl a.1) in
      (omega arith, omega arith)

  count_field : (start : ℕ) (x : Option ℕ) → Clean (set_count_field t i n start x) → (c : ℕ) → x ≡ Some c → (1 ≤ c) × (c < start)
  unfolding set_count_field
  count_field start None e c q = let z : ◌≡◌ {A = ℕ} 0 1 = cc in absurd (omega arith)
  count_field start (Some cf) e c q =
      let a = clean_if (eqb cf 0 || leb start cf) _ refl e in
      let z = eqb-false cf 0 (or_l _ _ a) in
      let b = leb-false start cf (or_r (eqb cf 0) _ a) in
      let s : cf ≡ c = cc in
      (omega arith, omega arith)

  nesting : (outer : Option Repeating) (r : Repeating) → Clean (set_nesting t i n outer r) → Inside (set_or_empty outer) r
  unfolding set_nesting
  nesting None r e = absurd (false≢true e)
  nesting (Some outer) r e = go (ltb outer.start r.start && leb (r.start + r.count) (outer.start + outer.count)) refl
    where
      go : (b : Bool) → (ltb outer.start r.start && leb (r.start + r.count) (outer.start + outer.count)) ≡ b → Inside outer r
      go true q = (ltb-true _ _ (and_l _ _ q), leb-true _ _ (and_r (ltb outer.start r.start) _ q))
      go false q = absurd (false≢true (rw q at e))

  silent : (fields : ℕ) (outer x : Option Repeating) → 0 < (set_or_empty x).count → Clean (check_set t i n fields outer x)
      → Silent fields (set_or_empty outer) (set_or_empty x)
  unfolding check_set
  silent fields outer None l e = absurd (omega arith)
  silent fields outer (Some r) l e =
      let parts = clean_in_turn (set_bounds t i n fields r)
      (set_count_field t i n r.start r.count_field ∷ (if r.nested then set_nesting t i n outer r else []) ∷ [])
      (rw (ne_eqb r.count 0 (λ q. omega arith)) at e) in
      let b = bounds fields r parts.0 in
      record {
        low = b.0;
        high = b.1;
        count = count_field r.start r.count_field parts.1.0;
        nests = λ q. nesting outer r (clean_then r.nested _ _ q parts.1.1.0);
      }

nests_in : (p : Pgn) (k : ℕ) → Inside (set_or_empty (set_before p k)) (set_at (layout p) k) → inside_previous (layout p) k ≡ true
unfolding inside_previous
nests_in p zero s = absurd (omega arith)
nests_in p (suc k) s =
    let a : Inside (set_at (layout p) k) (set_at (layout p) (suc k)) = rw (← layout_at p k) at s in
    and_i _ _ (lt-ltb _ _ a.0) (le-leb _ _ a.1)

pub sets_fit : (t i : ℕ) (p : Pgn) → Clean (check_repeating t i p) → (k o : ℕ) → Holds (layout p) k o → Fits (layout p) k
unfolding check_repeating
sets_fit t i p e k o h = go (rw (← layout_at p k) at (silent t i (k + 1) (length p.fields) (set_before p k) (set_place p k) some_order checked))
  where
    checked : Clean (check_set t i (k + 1) (length p.fields) (set_before p k) (set_place p k))
    checked = clean_below _ (length p.sets) e k (omega (arith, layout_length p, short (layout p) k o h))

    some_order : 0 < (set_or_empty (set_place p k)).count
    some_order = rw (← layout_at p k) (omega arith)

    go : Silent (length p.fields) (set_or_empty (set_before p k)) (set_at (layout p) k) → Fits (layout p) k
    go s = record { low = s.low; high = s.high; count = s.count; nests = λ q. nests_in p k (s.nests q) }
