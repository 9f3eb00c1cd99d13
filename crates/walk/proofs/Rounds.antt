-- The walk's rounds at one place are enough: more of them change nothing. Each set that is passed over takes the order up.
use Prim.Native.Nat.{ℕ, zero, suc, ◌+◌, ◌≤◌, ◌<◌}
use native.Mathlib.Omega.{arith}
use native.Mathlib.Nat.{zero-add, suc-add}
use mathlib.Core.Path.{◌≡◌, refl, sym, subst, ◌∙◌}
use mathlib.Core.Bool.{Bool, true, false}
use lib.ListN.{length}
use lib.Dec.{ltb, eqb}
use borrow.Author.Tests.{ltb-false}
use Rattle.walk.specs.Layout.{Layout, set_at, end}
use Rattle.walk.specs.Passes.{Place, goto, arrives, Stand, again, arrived, ready, beyond, look, Turn, goes_on, leaves, begins, turn, close, stand}
use Rattle.walk.specs.Walk.{Memory, Arrival, not_current, over, enter, arrive, settle, settled}
use Rattle.walk.proofs.Invariants.{arrives_e}

-- a set that is arrived at, at the order o, ends behind it
abbrev Ahead : Layout → ℕ → Stand → Type 0
Ahead L o (arrived k p) = (o < end L k) × (o ≤ length L.fields)
Ahead L o (again k p) = Unit {0}
Ahead L o (ready p) = Unit {0}
Ahead L o beyond = Unit {0}

look_ahead : (L : Layout) (k : ℕ) (p : Place) → p.order ≤ length L.fields → Ahead L p.order (look L k p)
unfolding look
look_ahead L zero p l = tt
look_ahead L (suc k) p l = go (arrives L p k) refl (look_ahead L k p l)
  where
    go : (b : Bool) → arrives L p k ≡ b → Ahead L p.order (look L k p) → Ahead L p.order (look L (suc k) p)
    go true e r = let v = arrives_e L p k e in rw (e, look) (omega (arith, v.full, v.starts), l)
    go false e r = rw (e, look) r

close_ahead : (L : Layout) (k : ℕ) (p : Place) → Ahead L p.order (close L k p)
unfolding close
close_ahead L zero p = go (ltb (length L.fields) p.order) refl
  where
    go : (b : Bool) → ltb (length L.fields) p.order ≡ b → Ahead L p.order (close L zero p)
    go true e = rw (e, close) tt
    go false e = rw (e, close) (look_ahead L (length L.sets) p (ltb-false _ _ e))
close_ahead L (suc k) p = go (turn (eqb p.order (end L k)) (p.left k)) refl (close_ahead L k)
  where
    go : (x : Turn) → turn (eqb p.order (end L k)) (p.left k) ≡ x → ((q : Place) → Ahead L q.order (close L k q))
        → Ahead L p.order (close L (suc k) p)
    go goes_on e rec = rw (e, close) (rec p)
    go leaves e rec = rw (e, close) (rec _)
    go (begins x) e rec = rw (e, close) tt

-- a set that is arrived at ends behind the order
pub ends_ahead : (L : Layout) (p q : Place) (k : ℕ) → arrived k q ≡ stand L p → p.order < end L k
unfolding stand
ends_ahead L p q k e = (subst (Ahead L p.order) (sym e) (close_ahead L (length L.sets) p)).0

module _ (L : Layout) {M : Type 0} (m : Memory M) (h : M) where
  one_more : (f o : ℕ) (c : Stand) → Ahead L o c → suc (length L.fields) ≤ f + o → settle L m (suc f) c h ≡ settle L m (suc (suc f)) c h
  unfolding settle stand
  one_more zero o (again k p) a l = refl
  one_more zero o (ready p) a l = refl
  one_more zero o beyond a l = refl
  one_more zero o (arrived k p) a l = absurd (omega arith)
  one_more (suc f) o (again k p) a l = refl
  one_more (suc f) o (ready p) a l = refl
  one_more (suc f) o beyond a l = refl
  one_more (suc f) o (arrived k p) a l = go (arrive L m p h k (set_at L k).count_field) refl (λ c. one_more f (end L k) c)
    where
      go : (x : Arrival) → arrive L m p h k (set_at L k).count_field ≡ x
          → ((c : Stand) → Ahead L (end L k) c → suc (length L.fields) ≤ f + end L k → settle L m (suc f) c h ≡ settle L m (suc (suc f)) c h)
          → settle L m (suc (suc f)) (arrived k p) h ≡ settle L m (suc (suc (suc f))) (arrived k p) h
      go not_current x rec = rw (x, settle)
      go over x rec = rw (x, settle) (rec (stand L (goto p (end L k))) (close_ahead L (length L.sets) (goto p (end L k))) (omega arith))
      go (enter y) x rec = rw (x, settle)

  pub enough : (p : Place) → 1 ≤ p.order → (more : ℕ) → settle L m (suc (more + length L.fields)) (stand L p) h ≡ settled L m p h
  unfolding settled stand
  enough p o zero = rw zero-add
  enough p o (suc d) = rw suc-add
      (sym (one_more (d + length L.fields) p.order (stand L p) (close_ahead L (length L.sets) p) (omega arith)) ∙ enough p o d)
