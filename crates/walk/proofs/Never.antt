-- A walk over a sound layout never stops; and how many visits a walk makes.
use Prim.Native.Nat.{ℕ, zero, suc, pred, ◌≤◌, ◌<◌}
use native.Mathlib.Omega.{arith}
use mathlib.Core.Path.{◌≡◌, refl, ap}
use mathlib.Core.List.{List, [], ◌∷◌}
use Rattle.std.specs.Prelude.{Option, None, Some}
use mathlib.Core.Bool.{Bool, true, false}
use lib.ListN.{length, get_or}
use Rattle.pack.specs.Value.{no_field}
use Rattle.walk.specs.Layout.{Layout, set_at, start, stop_1}
use Rattle.walk.specs.Passes.{passes, Place}
use Rattle.walk.specs.Visits.{Visits}
use Rattle.walk.specs.Walk.{Memory, counted, not_current, arrive, Settled, past, halted, due, End, whole, used_up, stop, Answer, onward, walk_on}
use Rattle.walk.specs.Walk.{walk_with, by_visits, Stops}
use Rattle.walk.specs.ByPlace.{placed, by_place}
use Rattle.walk.proofs.SetFacts.{Holds, Good, good}
use Rattle.walk.proofs.Position.{due_order, arriving_at}
use Rattle.walk.proofs.Agree.{Same, both_past, both_halted, both_due, next_same, first_same, agree}
use Rattle.walk.specs.declared.stops.Stop.{Stop}

-- HOW MANY VISITS, of any walk over n readings
pub record Counted (a : Answer) (n : ℕ) : Type 0 where
  pub at_most : length a.visits ≤ n
  pub exact : a.ends ≡ used_up → length a.visits ≡ n

module _ (L : Layout) {M : Type 0} (m : Memory M) (stops : Stops) where
  on_counted : (rs : List ℕ) (x : Settled M) → Counted (walk_on L m stops x rs) (length rs)
  unfolding walk_on
  on_counted [] past = record { at_most = omega arith; exact = λ q. refl }
  on_counted [] halted = record { at_most = omega arith; exact = λ q. refl }
  on_counted [] (due p h) = record { at_most = omega arith; exact = λ q. refl }
  on_counted (r ∷ rs) past = record { at_most = omega arith; exact = λ q. cc }
  on_counted (r ∷ rs) halted = record { at_most = omega arith; exact = λ q. cc }
  on_counted (r ∷ rs) (due p h) = go (stops (m.current p h) (pred p.order) r) refl (on_counted rs (onward L m p h r))
    where
      go : (t : Option Stop) → stops (m.current p h) (pred p.order) r ≡ t → Counted (walk_on L m stops (onward L m p h r) rs) (length rs)
          → Counted (walk_on L m stops (due p h) (r ∷ rs)) (suc (length rs))
      go (Some n) t c = rw (t, walk_on) (record { at_most = omega arith; exact = λ q. cc })
      go None t c = rw (t, walk_on) (record { at_most = omega (arith, c.at_most); exact = λ f. ap suc (c.exact f) })

  pub walk_counted : (rs : List ℕ) → Counted (walk_with L m stops rs) (length rs)
  unfolding walk_with
  walk_counted rs = go (stop_1 L) refl
    where
      go : (b : Bool) → stop_1 L ≡ b → Counted (walk_with L m stops rs) (length rs)
      go true e = rw (e, walk_with) (record { at_most = omega arith; exact = λ q. cc })
      go false e = rw (e, walk_with) (on_counted rs _)

-- no stop
abbrev pub Runs : End → Type 0
Runs whole = Unit {0}
Runs used_up = Unit {0}
Runs (stop n) = ⊥

-- SOUND: by the place alone, no field stops whatever is read, and a set's countField is current at its start.
abbrev pub Count_placed : Layout → ℕ → Option ℕ → Type 0
Count_placed L o None = Unit {0}
Count_placed L o (Some zero) = ⊥
Count_placed L o (Some (suc t)) = placed L o t ≡ true

pub record Sound (L : Layout) (stops : Stops) : Type 0 where
  pub laid : stop_1 L ≡ false
  pub fields : (i r : ℕ) → i < length L.fields → stops (placed L (suc i)) i r ≡ None
  pub counts : (k : ℕ) → Holds L k (start L k) → Count_placed L (start L k) (set_at L k).count_field

module _ (L : Layout) (stops : Stops) (S : Sound L stops) where
  G : Good L
  G = good L S.laid

  at_order : (i o r : ℕ) → suc i ≡ o → o ≤ length L.fields → stops (placed L o) i r ≡ None
  at_order i o r q l = rw (← q) (S.fields i r (omega arith))

  answers : (p : Place) (g : ℕ → ℕ) (k : ℕ) (c : Option ℕ) → Count_placed L p.order c → arrive L (by_place L) p g k c ≡ not_current → ⊥
  unfolding arrive
  answers p g k None e f = let z : ◌≡◌ {A = ℕ} 0 1 = cc in omega arith
  answers p g k (Some zero) e f = e
  answers p g k (Some (suc t)) e f = go (passes (get_or L.fields t no_field).res_bits (g k)) (rw e at f)
    where
      go : (n : ℕ) → counted true n ≡ not_current → ⊥
      go zero f = let z : ◌≡◌ {A = ℕ} 0 1 = cc in omega arith
      go (suc n) f = let z : ◌≡◌ {A = ℕ} 0 1 = cc in omega arith

  counts_at : (p : Place) (k : ℕ) → Holds L k p.order × (start L k ≡ p.order) → Count_placed L p.order (set_at L k).count_field
  counts_at p k a = let c = S.counts k (omega (arith, a.0, a.1)) in rw a.1 at c

  runs : (rs : List ℕ) (x : Settled Visits) (y : Settled (ℕ → ℕ)) → Same L x y → Runs (walk_on L (by_place L) stops y rs).ends
  unfolding walk_on
  runs [] x y both_past = tt
  runs [] x y (both_halted {k = k} {p = p} g c e) = answers p g k (set_at L k).count_field (counts_at p k (arriving_at L G c)) e
  runs [] x y (both_due c a) = tt
  runs (r ∷ rs) x y both_past = tt
  runs (r ∷ rs) x y (both_halted {k = k} {p = p} g c e) = answers p g k (set_at L k).count_field (counts_at p k (arriving_at L G c)) e
  runs (r ∷ rs) x y (both_due {p = p} {h = h} {g = g} c a) =
      let o = due_order L G c in
      rw (at_order (pred p.order) p.order r (omega arith) o.1, walk_on) (runs rs _ _ (next_same L G p h g r c a))

  pub never : (rs : List ℕ) → Runs (walk_with L (by_visits L) stops rs).ends
  unfolding walk_with
  never rs = rw (agree L stops rs, S.laid, walk_with) (runs rs _ _ (first_same L G))
