-- THE LAW OF POSITION. Past stop 1, at a due field of order o and on arriving at a set at o, a field is current exactly if its order is
-- below o and every nonempty set that holds it holds o (`placed`).
use Prim.Native.Nat.{ℕ, zero, suc, pred, ◌≤◌, ◌<◌}
use native.Mathlib.Omega.{arith}
use mathlib.Core.Path.{◌≡◌, refl}
use mathlib.Core.Bool.{false, ◌&&◌}
use Rattle.std.specs.Prelude.{Some}
use lib.ListN.{length}
use lib.Dec.{ltb}
use borrow.Author.Tests.{ltb-true, lt-ltb}
use Rattle.walk.specs.Layout.{Layout, set_at, start, end, holds, sets_hold, stop_1}
use Rattle.walk.specs.Passes.{Rest, present, Place, first, goto, goto_with, Stand, again, arrived, ready, beyond, stand}
use Rattle.walk.specs.Visits.{Visits, visited, is_current}
use Rattle.walk.specs.Walk.{by_visits, Arrival, not_current, over, enter, arrive, Settled, past, halted, due, settle, settled, onward}
use Rattle.walk.specs.ByPlace.{placed}
use Rattle.walk.proofs.Tests.{and_l, and_r, and_i, bool_eq}
use Rattle.walk.proofs.SetFacts.{Holds, holds_e, holds_i, each_e, each_i, Good, good}
use Rattle.walk.proofs.Invariants.{Present, Law, Due, Stood, now, still, law_visit, moved_visit, entering, law_over, due_enter, moved_over, stand_ok}
use Rattle.walk.proofs.Invariants.{moved_first, law_first}

-- A walk stands somewhere before a visit, or a field is due.
pub data Moment : Type 0 where
  standing : Stand → Moment
  visiting : Place → Moment

-- THE MOMENTS THAT A WALK COMES TO, with the visits made by then: whatever is read, so whatever a countField gives and no stop stops.
pub data Comes (L : Layout) : Moment → Visits → Type 0 where
  at_first : Comes L (standing (stand L first)) (by_visits L).fresh
  another : {k : ℕ} {p : Place} {h : Visits} → Comes L (standing (again k p)) h → Comes L (visiting p) ((by_visits L).begin h k)
  no_start : {p : Place} {h : Visits} → Comes L (standing (ready p)) h → Comes L (visiting p) h
  entered : {k : ℕ} {p : Place} {h : Visits} (x : Rest) → Comes L (standing (arrived k p)) h
      → Comes L (visiting (goto_with p p.order k (Some x))) ((by_visits L).begin h k)
  passed_over : {k : ℕ} {p : Place} {h : Visits} → Comes L (standing (arrived k p)) h → Comes L (standing (stand L (goto p (end L k)))) h
  after_visit : {p : Place} {h : Visits} (r : ℕ) → Comes L (visiting p) h
      → Comes L (standing (stand L (goto p (suc p.order)))) ((by_visits L).visit h (pred p.order) r)

-- what holds at each
abbrev pub Holds_at : Layout → Moment → Visits → Type 0
Holds_at L (standing c) h = (w : ℕ) × Stood L w h c
Holds_at L (visiting p) h = Due L p × Law L p h

module _ (L : Layout) (G : Good L) where
  pub comes_e : (m : Moment) (h : Visits) → Comes L m h → Holds_at L m h
  comes_e m h at_first = (0, stand_ok L G 0 _ first (moved_first L G) (law_first L))
  comes_e m h (another c) = (comes_e _ _ c).1
  comes_e m h (no_start c) = (comes_e _ _ c).1
  comes_e m h (entered {k = k} {p = p} x c) =
      let s = comes_e _ _ c in
      let a = s.1.arriving in
      (due_enter L G s.0 p s.1.moved s.1.high k x a, entering L p _ s.1.law k x a)
  comes_e m h (passed_over {k = k} {p = p} c) =
      let s = comes_e _ _ c in
      let a = s.1.arriving in
      (s.0, stand_ok L G s.0 _ _ (moved_over L G s.0 p s.1.moved s.1.high k a) (law_over L p _ s.1.law k a.starts a.outside))
  comes_e m h (after_visit {p = p} {h = v} r c) =
      let s = comes_e _ _ c in
      (p.order, stand_ok L G p.order _ _ (moved_visit L p v s.1 s.0 r) (law_visit L p v s.1 s.0 r))

  -- `is_current` is `placed` where, of the sets that begin before here, those with a present pass are those that hold this order
  by_law : (p : Place) (h : Visits) → Law L p h → ((j : ℕ) → Present p j → Holds L j p.order)
      → ((j : ℕ) → start L j < p.order → Holds L j p.order → Present p j)
      → (t : ℕ) → is_current L p h t ≡ placed L p.order t
  unfolding is_current placed sets_hold
  by_law p h law to fro t = bool_eq _ _
      (λ e.
      let a = each_e L (suc t) (λ k. present (p.left k) && visited (h.begun k) h.made t) (and_r (visited 0 h.made t) _ e) in
      let d = law.fwd t (record { ever = and_l _ _ e; here = λ k i. and_l _ _ (a k i); lately = λ k i. and_r (present (p.left k)) _ (a k i) }) in
      and_i _ _ (lt-ltb _ _ d.below) (each_i L (suc t) (λ k. holds L k p.order) (λ k i. holds_i L k _ (to k (d.here k i)))))
      (λ e.
      let b : suc t < p.order = ltb-true _ _ (and_l _ _ e) in
      let a = each_e L (suc t) (λ k. holds L k p.order) (and_r (ltb (suc t) p.order) _ e) in
      let c = law.bwd t (record { below = b; here = λ k i. fro k (omega arith) (holds_e L k _ (a k i)) }) in
      and_i _ _ c.ever (each_i L (suc t) (λ k. present (p.left k) && visited (h.begun k) h.made t) (λ k i. and_i _ _ (c.here k i) (c.lately k i))))

  pub at_field : {p : Place} {h : Visits} → Comes L (visiting p) h → (t : ℕ) → is_current L p h t ≡ placed L p.order t
  at_field {p} {h} c = let s = comes_e _ _ c in by_law p h s.1 s.0.holding (λ j l. s.0.held j)

  pub on_arriving : {k : ℕ} {p : Place} {h : Visits} → Comes L (standing (arrived k p)) h → (t : ℕ) → is_current L p h t ≡ placed L p.order t
  on_arriving {k} {p} {h} c = let s = comes_e _ _ c in by_law p h s.1.law (now L s.0 p s.1.moved) (still L s.0 p s.1.moved)

  -- a due field is one of the PGN's, and a set that is arrived at starts here
  pub due_order : {p : Place} {h : Visits} → Comes L (visiting p) h → (1 ≤ p.order) × (p.order ≤ length L.fields)
  due_order c = let s = comes_e _ _ c in (s.0.low, s.0.high)

  pub arriving_at : {k : ℕ} {p : Place} {h : Visits} → Comes L (standing (arrived k p)) h → Holds L k p.order × (start L k ≡ p.order)
  arriving_at c = let a = (comes_e _ _ c).1.arriving in (omega (arith, a.full, a.starts), a.starts)

pub record Position (L : Layout) : Type 0 where
  pub at_field : (p : Place) (h : Visits) → Comes L (visiting p) h → (t : ℕ) → is_current L p h t ≡ placed L p.order t
  pub on_arriving : (k : ℕ) (p : Place) (h : Visits) → Comes L (standing (arrived k p)) h → (t : ℕ) → is_current L p h t ≡ placed L p.order t

pub position : (L : Layout) → stop_1 L ≡ false → Position L
position L e = record { at_field = λ p h c. at_field L (good L e) c; on_arriving = λ k p h c. on_arriving L (good L e) c }

-- A walk comes to no other moments: a field that falls due is one of them.
abbrev pub Due_comes : Layout → Settled Visits → Type 0
Due_comes L past = Unit {0}
Due_comes L halted = Unit {0}
Due_comes L (due p h) = Comes L (visiting p) h

module _ (L : Layout) where
  settle_comes : (n : ℕ) (c : Stand) (h : Visits) → Comes L (standing c) h → Due_comes L (settle L (by_visits L) n c h)
  unfolding settle
  settle_comes zero c h s = tt
  settle_comes (suc n) (again k p) h s = another s
  settle_comes (suc n) (ready p) h s = no_start s
  settle_comes (suc n) beyond h s = tt
  settle_comes (suc n) (arrived k p) h s = go (arrive L (by_visits L) p h k (set_at L k).count_field) refl (λ c. settle_comes n c h)
    where
      go : (x : Arrival) → arrive L (by_visits L) p h k (set_at L k).count_field ≡ x
          → ((c : Stand) → Comes L (standing c) h → Due_comes L (settle L (by_visits L) n c h))
          → Due_comes L (settle L (by_visits L) (suc n) (arrived k p) h)
      go not_current e rec = rw (e, settle) tt
      go over e rec = rw (e, settle) (rec _ (passed_over s))
      go (enter x) e rec = rw (e, settle) (entered x s)

  pub first_comes : Due_comes L (settled L (by_visits L) first (by_visits L).fresh)
  unfolding settled
  first_comes = settle_comes (suc (length L.fields)) _ _ at_first

  pub next_comes : {p : Place} {h : Visits} → Comes L (visiting p) h → (r : ℕ) → Due_comes L (onward L (by_visits L) p h r)
  unfolding onward settled
  next_comes c r = settle_comes (suc (length L.fields)) _ _ (after_visit r c)
