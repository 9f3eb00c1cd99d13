-- Sets that fit (R05) and are held: the layout is past stop 1, and every countField is current at its set's start.
use Prim.Native.Nat.{ℕ, zero, suc, ◌≤◌, ◌<◌}
use native.Mathlib.Omega.{arith}
use mathlib.Core.Path.{◌≡◌, refl, ap}
use mathlib.Core.Bool.{Bool, true, false, not, ◌||◌}
use Rattle.std.specs.Prelude.{Option, None, Some}
use lib.ListN.{length}
use lib.Dec.{eqb}
use borrow.Author.Tests.{ltb-true, eqb-true, not-true, lt-ltb, le-ltb, le-leb, ne_eqb}
use Rattle.walk.specs.Layout.{Layout, set_at, start, end, nonempty, nested_in, inside_previous, misplaced, clash, stop_1}
use Rattle.walk.specs.Held.{shares_held}
use Rattle.walk.specs.HeldReadings.{field_in, may_hold, count_field_widest, widest_count_fields_held}
use Rattle.walk.proofs.Tests.{and_i, or_i, and_not, imp_e, every_e, none_below}
use Rattle.walk.proofs.SetFacts.{Holds, holds_i, short, placed_i, nested_e}
use Rattle.walk.proofs.Never.{Count_placed}
use Rattle.rules.specs.Search.{every_below}

-- what R05 gives of set k, which holds some order
pub record Fits (L : Layout) (k : ℕ) : Type 0 where
  pub low : 1 ≤ start L k
  pub high : end L k ≤ suc (length L.fields)
  pub count : (c : ℕ) → (set_at L k).count_field ≡ Some c → (1 ≤ c) × (c < start L k)
  pub nests : (set_at L k).nested ≡ true → inside_previous L k ≡ true

module _ (L : Layout) (fit : (k o : ℕ) → Holds L k o → Fits L k) (shares : shares_held L ≡ true) where
  apart : (j k : ℕ) → j < k → k < length L.sets → clash L j k ≡ false
  unfolding shares_held
  apart j k l m = not-true (clash L j k)
      (every_e (λ j. not (clash L j k)) k (every_e (λ k. every_below (λ j. not (clash L j k)) k) (length L.sets) shares k m) j l)

  in_place : (k : ℕ) → misplaced L k ≡ false
  unfolding misplaced
  in_place k = go (nonempty L k) refl
    where
      go : (b : Bool) → nonempty L k ≡ b → misplaced L k ≡ false
      go false e = rw (e, misplaced)
      go true e =
          let l = ltb-true 0 (set_at L k).count e in
          let f = fit k (start L k) (omega arith) in
          rw (e, misplaced)
          (or_i _ _ (or_i _ _ (ne_eqb (start L k) 0 (λ q. omega (arith, f.low))) (le-ltb _ _ f.high))
          (and_not (set_at L k).nested (inside_previous L k) f.nests))

  pub past_stop_1 : stop_1 L ≡ false
  unfolding stop_1
  past_stop_1 = none_below _ (length L.sets) (λ k l. or_i (misplaced L k) _ (in_place k) (none_below (λ j. clash L j k) k (λ j m. apart j k m l)))

  -- By R05's cause 3 the countField c comes before set k, and so set k does not hold it; nor does a set inside set k.
  around : (j k c : ℕ) → Holds L j c → Holds L k (start L k) → c < start L k → (same nests : Bool) → eqb j k ≡ same → nested_in L j k ≡ nests
      → (same || nests || nested_in L k j) ≡ true → Holds L j (start L k)
  around j k c holding at before true nests own inner e = absurd (omega (arith, holding.0, before, ap (λ m. start L m) (eqb-true j k own)))
  around j k c holding at before false true own inner e = let b = nested_e L past_stop_1 j k (start L k) at inner in omega arith
  around j k c holding at before false false own inner e = let b = nested_e L past_stop_1 k j c holding e in absurd (omega arith)

  pub counts_placed : widest_count_fields_held L ≡ true → (k : ℕ) → Holds L k (start L k) → Count_placed L (start L k) (set_at L k).count_field
  unfolding widest_count_fields_held count_field_widest
  counts_placed e k h = go (set_at L k).count_field refl
    where
      sets : ℕ
      sets = length L.sets

      is_widest : count_field_widest L k (set_at L k).count_field ≡ true
      is_widest =
          let asked = every_e (λ k. not (nonempty L k) || count_field_widest L k (set_at L k).count_field) sets e k (short L k (start L k) h) in
          imp_e (nonempty L k) _ asked (lt-ltb 0 (set_at L k).count (omega arith))

      go : (x : Option ℕ) → (set_at L k).count_field ≡ x → Count_placed L (start L k) x
      go None q = tt
      go (Some zero) q = omega (arith, (fit k (start L k) h).count 0 q)
      go (Some (suc t)) q =
          let g : count_field_widest L k (Some (suc t)) ≡ true = rw q at is_widest in
          let f = fit k (start L k) h in
          let before : suc t < start L k = (f.count (suc t) q).1 in
          placed_i L (start L k) t before (λ j holding.
          let low = lt-ltb 0 (suc t) (omega arith) in
          let high = le-leb (suc t) (length L.fields) (omega (arith, f.high, before)) in
          let lies : field_in L j (suc t) ≡ true = and_i _ _ (and_i _ _ low high) (holds_i L j (suc t) holding) in
          let asked = every_e (λ j. not (field_in L j (suc t)) || may_hold L j k) sets g j (short L j (suc t) holding) in
          let may = imp_e (field_in L j (suc t)) (may_hold L j k) asked lies in
          around j k (suc t) holding h before (eqb j k) (nested_in L j k) refl refl may)
