-- The walk by its visits and the walk by the place alone are one walk.
use Prim.Native.Nat.{ℕ, zero, suc, pred}
use native.Mathlib.Omega.{arith}
use native.Mathlib.Decide.{ℕ_discrete}
use mathlib.Core.Path.{◌≡◌, refl, ap, fun_ext}
use mathlib.Core.List.{List, [], ◌∷◌}
use Rattle.std.specs.Prelude.{Option, None, Some}
use mathlib.Core.Bool.{Bool, true, false}
use lib.ListN.{length}
use borrow.Author.Tests.{eq-eqb, ne_eqb}
use Rattle.walk.specs.Layout.{Layout, set_at, stop_1}
use Rattle.walk.specs.Passes.{Place, first, Stand, again, arrived, ready, beyond}
use Rattle.walk.specs.Visits.{Visits, latest, is_current}
use Rattle.walk.specs.Walk.{Arrival, not_current, over, enter, arrive, Settled, past, halted, due, visit_then, settle, settled, onward, walk_on}
use Rattle.walk.specs.Walk.{walk_with, by_visits, Stops}
use Rattle.walk.specs.ByPlace.{placed, by_place}
use Rattle.walk.proofs.SetFacts.{Good, good}
use Rattle.walk.proofs.Position.{standing, visiting, Comes, at_first, another, no_start, entered, passed_over, after_visit, at_field, on_arriving}
use Rattle.walk.specs.declared.stops.Stop.{Stop}

-- what the walk by place keeps: the latest readings of the countFields
abbrev pub Readings : Layout → Visits → (ℕ → ℕ) → Type 0
Readings L h g = (k t : ℕ) → (set_at L k).count_field ≡ Some (suc t) → latest h.made t ≡ g k

readings_visit : (L : Layout) (h : Visits) (g : ℕ → ℕ) → Readings L h g → (i r : ℕ) → Readings L ((by_visits L).visit h i r) ((by_place L).visit g i r)
unfolding latest
readings_visit L h g a i r k t e = go (ℕ_discrete i t)
  where
    go : Dec (i ≡ t) → latest ((by_visits L).visit h i r).made t ≡ (by_place L).visit g i r k
    go (yes q) = rw (by_place, latest, e, eq-eqb i t q, eq-eqb (suc t) (suc i) (omega arith))
    go (no q) = rw (by_place, latest, e, ne_eqb i t q, ne_eqb (suc t) (suc i) (λ c. q (omega arith))) (a k t e)

-- the two settle alike
pub data Same (L : Layout) : Settled Visits → Settled (ℕ → ℕ) → Type 0 where
  both_past : Same L past past
  both_halted : {k : ℕ} {p : Place} {h : Visits} (g : ℕ → ℕ) → Comes L (standing (arrived k p)) h
      → arrive L (by_place L) p g k (set_at L k).count_field ≡ not_current → Same L halted halted
  both_due : {p : Place} {h : Visits} {g : ℕ → ℕ} → Comes L (visiting p) h → Readings L h g → Same L (due p h) (due p g)

module _ (L : Layout) (G : Good L) where
  arrive_same : (p : Place) (h : Visits) (g : ℕ → ℕ) (k : ℕ) → ((t : ℕ) → is_current L p h t ≡ placed L p.order t) → Readings L h g
      → (c : Option ℕ) → (set_at L k).count_field ≡ c → arrive L (by_visits L) p h k c ≡ arrive L (by_place L) p g k c
  unfolding arrive
  arrive_same p h g k same a None e = refl
  arrive_same p h g k same a (Some zero) e = refl
  arrive_same p h g k same a (Some (suc t)) e = rw (same t, a k t e)

  settle_same : (n : ℕ) (h : Visits) (g : ℕ → ℕ) → Readings L h g → (c : Stand) → Comes L (standing c) h
      → Same L (settle L (by_visits L) n c h) (settle L (by_place L) n c g)
  unfolding settle
  settle_same zero h g a c s = both_past
  settle_same (suc n) h g a (again k p) s = both_due (another s) a
  settle_same (suc n) h g a (ready p) s = both_due (no_start s) a
  settle_same (suc n) h g a beyond s = both_past
  settle_same (suc n) h g a (arrived k p) s = go (arrive L (by_place L) p g k (set_at L k).count_field) refl (settle_same n h g a)
    where
      same : arrive L (by_visits L) p h k (set_at L k).count_field ≡ arrive L (by_place L) p g k (set_at L k).count_field
      same = arrive_same p h g k (on_arriving L G s) a (set_at L k).count_field refl

      go : (x : Arrival) → arrive L (by_place L) p g k (set_at L k).count_field ≡ x
          → ((c : Stand) → Comes L (standing c) h → Same L (settle L (by_visits L) n c h) (settle L (by_place L) n c g))
          → Same L (settle L (by_visits L) (suc n) (arrived k p) h) (settle L (by_place L) (suc n) (arrived k p) g)
      go not_current x rec = rw (same, x, settle) (both_halted g s x)
      go over x rec = rw (same, x, settle) (rec _ (passed_over s))
      go (enter y) x rec = rw (same, x, settle) (both_due (entered y s) a)

  pub next_same : (p : Place) (h : Visits) (g : ℕ → ℕ) (r : ℕ) → Comes L (visiting p) h → Readings L h g
      → Same L (onward L (by_visits L) p h r) (onward L (by_place L) p g r)
  unfolding onward settled
  next_same p h g r c a = settle_same (suc (length L.fields)) _ _ (readings_visit L h g a (pred p.order) r) _ (after_visit r c)

  pub first_same : Same L (settled L (by_visits L) first (by_visits L).fresh) (settled L (by_place L) first (by_place L).fresh)
  unfolding settled latest
  first_same = settle_same (suc (length L.fields)) _ _ (λ k t e. refl) _ at_first

  walk_same : (stops : Stops) (rs : List ℕ) (x : Settled Visits) (y : Settled (ℕ → ℕ)) → Same L x y
      → walk_on L (by_visits L) stops x rs ≡ walk_on L (by_place L) stops y rs
  unfolding walk_on
  walk_same stops [] x y both_past = refl
  walk_same stops [] x y (both_halted g c e) = refl
  walk_same stops [] x y (both_due c a) = refl
  walk_same stops (r ∷ rs) x y both_past = refl
  walk_same stops (r ∷ rs) x y (both_halted g c e) = refl
  walk_same stops (r ∷ rs) x y (both_due {p = p} {h = h} {g = g} c a)
      = go (stops (placed L p.order) (pred p.order) r) refl (walk_same stops rs _ _ (next_same p h g r c a))
    where
      current : (by_visits L).current p h ≡ placed L p.order
      current = fun_ext (at_field L G c)

      go : (t : Option Stop) → stops (placed L p.order) (pred p.order) r ≡ t
          → walk_on L (by_visits L) stops (onward L (by_visits L) p h r) rs ≡ walk_on L (by_place L) stops (onward L (by_place L) p g r) rs
          → walk_on L (by_visits L) stops (due p h) (r ∷ rs) ≡ walk_on L (by_place L) stops (due p g) (r ∷ rs)
      go (Some n) t rec = rw (current, t, walk_on)
      go None t rec = rw (current, t, walk_on) (ap (visit_then (pred p.order)) rec)

pub agree : (L : Layout) (stops : Stops) (rs : List ℕ) → walk_with L (by_visits L) stops rs ≡ walk_with L (by_place L) stops rs
unfolding walk_with
agree L stops rs = go (stop_1 L) refl
  where
    go : (b : Bool) → stop_1 L ≡ b → walk_with L (by_visits L) stops rs ≡ walk_with L (by_place L) stops rs
    go true e = rw (e, walk_with)
    go false e = rw (e, walk_with) (walk_same L (good L e) stops rs _ _ (first_same L (good L e)))
