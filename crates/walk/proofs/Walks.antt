-- The walk's loop: what it has made of the walk by now, one step, and its ends.
use Rattle.walk.specs.declared.walk.End.{End as Ending}
use Prim.Native.Nat.{ℕ, suc, pred, ◌+◌, ◌-◌, ◌≤◌, ◌<◌}
use native.Mathlib.Omega.{arith}
use native.Mathlib.Numerals.{add-one}
use mathlib.Core.Path.{◌≡◌, refl, sym, ap, subst, ◌∙◌, fun_ext}
use mathlib.Core.Bool.{true, false}
use mathlib.Core.List.{List, [], ◌∷◌, ◌++◌}
use Rattle.std.specs.Prelude.{Option, None, Some}
use lib.ListN.{length, get_or, set, drop, drop_of_length-le, length-append}
use lib.Seq.{drop-cons}
use Rattle.pack.specs.Load.{over}
use Rattle.pack.specs.Placing.{Stored}
use Rattle.pack.specs.Value.{Pgn, Pack}
use Rattle.pack.proofs.Stores.{stored_none, stored_one, sets_over}
use Rattle.walk.specs.Layout.{Layout, layout, stop_1}
use Rattle.walk.specs.Passes.{Rest, Place, first, goto}
use Rattle.walk.specs.Visits.{Visits}
use Rattle.walk.specs.Walk.{Stops, Settled, past, halted, due, settled, onward, stop, Answer, no_visit, visit_then, walk_on, walk_with, by_visits, walk}
use Rattle.walk.specs.ByPlace.{placed, by_place}
use Rattle.walk.specs.State.{left_of, left_at, place_of, memory_of, settled_of}
use Rattle.walk.specs.Steps.{end_of, Stepped, ended, visited, one_step, Run, no_step, then_step, used, Within}
use Rattle.walk.specs.Stops.{stop_at}
use Rattle.walk.specs.WalkCall.{ending, Told}
use Rattle.walk.specs.declared.passes.Settling.{Settling}
use Rattle.walk.specs.declared.passes.Settling.TheVariants.{Due}
use Rattle.pack.specs.declared.protocol.FieldOrder.{FieldOrder}
use Rattle.walk.specs.declared.stops.Stop.{Stop as Reason}
use Rattle.walk.specs.declared.stops.Stop.TheVariants.{SetMisplaced}
use Rattle.walk.specs.declared.walk.End.TheVariants.{Whole, UsedUp, Stop}
use Rattle.walk.proofs.SetFacts.{Good, good}
use Rattle.walk.proofs.Position.{due_order}
use Rattle.walk.proofs.Agree.{Same, both_past, both_halted, both_due, next_same, first_same, agree}

joined : (xs ys zs : List ℕ) → xs ++ (ys ++ zs) ≡ (xs ++ ys) ++ zs
joined [] ys zs = refl
joined (x ∷ xs) ys zs = ap (λ (l : List ℕ). x ∷ l) (joined xs ys zs)

with_none : (xs : List ℕ) → xs ++ [] ≡ xs
with_none [] = refl
with_none (x ∷ xs) = ap (λ (l : List ℕ). x ∷ l) (with_none xs)

-- ---- the code's values

pub end_back : (e : Ending) → ending (end_of e) ≡ e
end_back Whole = refl
end_back UsedUp = refl
end_back (Stop n) = refl

module _ (L : Layout) (stops : Stops) (p : Place) (g : ℕ → ℕ) (r k : ℕ) (ek : k ≡ p.order - 1) (low : 1 ≤ p.order) {o : Option Reason}
    (eo : o ≡ stops (placed L (suc k)) k r) where
  here : o ≡ stops (placed L p.order) (pred p.order) r
  here = let a : suc k ≡ p.order = omega arith in let b : k ≡ pred p.order = omega arith in rw (← b, ← a) eo

  pub step_stops : {n : Reason} → o ≡ Some n → ended (stop n) ≡ one_step L stops (due p g) r
  unfolding one_step
  step_stops z = rw (← here, z, one_step)

  pub step_visits : o ≡ None → (d : Settled (ℕ → ℕ)) → d ≡ onward L (by_place L) p g r → visited k d ≡ one_step L stops (due p g) r
  unfolding one_step
  step_visits z d e = let b : k ≡ pred p.order = omega arith in rw (← here, z, e, ← b, one_step)

pub due_within : (L : Layout) (v : Settling) (w : List ℕ) (o : FieldOrder) → v ≡ Due o → Within L (settled_of v w) → (1 ≤ o.0) × (o.0 ≤ length L.fields)
due_within L v w o e h = rw e at h

-- no set has a present pass, and no countField a reading
pub begins_at : (L : Layout) (w : List ℕ) → ((k : ℕ) → left_of (left_at w k) ≡ None) → ((k : ℕ) → memory_of w k ≡ 0) → (o : ℕ) → o ≡ 1
    → settled L (by_place L) (place_of o w) (memory_of w) ≡ settled L (by_place L) first (by_place L).fresh
begins_at L w left latest o q =
    ap (λ (n : ℕ). settled L (by_place L) (place_of n w) (memory_of w)) q
    ∙ ap (λ (l : ℕ → Option Rest). settled L (by_place L) (record { order = 1; left = l }) (memory_of w)) (fun_ext left)
    ∙ ap (settled L (by_place L) first) (fun_ext latest)

-- numbers that leave the same of each set, at the next order
pub same_left : (w w' : List ℕ) → ((k : ℕ) → left_at w' k ≡ left_at w k) → (o n : ℕ) → n ≡ o + 1 → place_of n w' ≡ goto (place_of o w) (o + 1)
same_left w w' same o n e =
    ap (λ (i : ℕ). place_of i w') e
    ∙ ap (λ (l : ℕ → Option Rest). record { order = o + 1; left = l }) (fun_ext (λ k. ap left_of (same k)))

pub goes_onward : (L : Layout) (p q : Place) (g h : ℕ → ℕ) (r : ℕ) → q ≡ goto p (p.order + 1) → h ≡ (by_place L).visit g (p.order - 1) r
    → settled L (by_place L) q h ≡ onward L (by_place L) p g r
unfolding onward
goes_onward L p q g h r e f = let b : p.order - 1 ≡ pred p.order = omega arith in rw (e, f, b, add-one)

-- ---- one step

module _ (L : Layout) (stops : Stops) where
  abbrev answer_of : List ℕ → Stepped → Answer
  answer_of rs (ended e) = no_visit e
  answer_of rs (visited k d) = visit_then k (walk_on L (by_place L) stops d rs)

  step_law : (c : Settled (ℕ → ℕ)) (r : ℕ) (rs : List ℕ) → walk_on L (by_place L) stops c (r ∷ rs) ≡ answer_of rs (one_step L stops c r)
  unfolding one_step walk_on
  step_law past r rs = refl
  step_law halted r rs = refl
  step_law (due p g) r rs = go (stops (placed L p.order) (pred p.order) r) refl
    where
      go : (t : Option Reason) → stops (placed L p.order) (pred p.order) r ≡ t
          → walk_on L (by_place L) stops (due p g) (r ∷ rs) ≡ answer_of rs (one_step L stops (due p g) r)
      go (Some n) e = rw (e, walk_on, one_step)
      go None e = rw (e, walk_on, one_step)

  abbrev Next : Stepped → Type 0
  Next (ended e) = Unit {0}
  Next (visited k d) = (y : Settled Visits) × Same L y d

  next_law : Good L → (r : ℕ) (x : Settled Visits) (c : Settled (ℕ → ℕ)) → Same L x c → Next (one_step L stops c r)
  unfolding one_step
  next_law G r x c both_past = tt
  next_law G r x c (both_halted g m e) = tt
  next_law G r x c (both_due {p = p} {h = h} {g = g} m a) = go (stops (placed L p.order) (pred p.order) r) refl
    where
      go : (t : Option Reason) → stops (placed L p.order) (pred p.order) r ≡ t → Next (one_step L stops (due p g) r)
      go (Some n) e = rw (e, one_step) tt
      go None e = rw (e, one_step) (onward L (by_visits L) p h r, next_same L G p h g r m a)

within_same : (L : Layout) → Good L → (x : Settled Visits) (c : Settled (ℕ → ℕ)) → Same L x c → Within L c
within_same L G x c both_past = tt
within_same L G x c (both_halted g m e) = tt
within_same L G x c (both_due m a) = due_order L G m

-- ---- the loop

abbrev after : List ℕ → Answer → Answer
after made a = record { ends = a.ends; visits = made ++ a.visits }

-- THE HISTORY: of the walk A the first n visits are made, and the rest goes on from c. No buffer has a part in it.
pub record History (L : Layout) (stops : Stops) (A : Answer) (readings made : List ℕ) (n : ℕ) (c : Settled (ℕ → ℕ)) : Type 0 where
  pub count : n ≡ length made
  pub rest : A ≡ after made (walk_on L (by_place L) stops c (drop n readings))
  pub whence : Settled Visits
  pub same : Same L whence c

-- THE BUFFER: the n visits that are made stand in w', which was w
pub record Written (w w' made : List ℕ) (n : ℕ) : Type 0 where
  pub stored : Stored w 0 made w' n

-- both, of the same visits
pub record Going (L : Layout) (stops : Stops) (A : Answer) (readings w w' : List ℕ) (n : ℕ) (c : Settled (ℕ → ℕ)) : Type 0 where
  pub made : List ℕ
  pub history : History L stops A readings made n c
  pub buffer : Written w w' made n

-- the walk has ended here, with these visits
pub record EndsWith (A : Answer) (made : List ℕ) (e : Ending) : Type 0 where
  pub ends : A.ends ≡ end_of e
  pub visits : A.visits ≡ made

ends_at : (A : Answer) (made : List ℕ) (e : Ending) → A ≡ after made (no_visit (end_of e)) → EndsWith A made e
ends_at A made e a = record { ends = ap (λ (x : Answer). x.ends) a; visits = ap (λ (x : Answer). x.visits) a ∙ with_none made }

-- with the buffer: the call's answer
told_at : (A : Answer) (w w' made : List ℕ) (n : ℕ) (e : Ending) → EndsWith A made e → n ≡ length made → Written w w' made n → n ≤ length w
    → Told A w w' (record { end = e; visits = n })
told_at A w w' made n e o k b l = record {
  answer = rw (o.ends, o.visits, end_back e, k);
  out = b.stored.work ∙ sets_over w made (omega arith) ∙ ap (λ (v : List ℕ). over v w) (sym o.visits);
}

pub start_history : (P : Pack) (p : Pgn) (readings : List ℕ) → stop_1 (layout p) ≡ false
    → (c : Settled (ℕ → ℕ)) → c ≡ settled (layout p) (by_place (layout p)) first (by_place (layout p)).fresh
    → History (layout p) (stop_at P p) (walk P p readings) readings [] 0 c
unfolding walk walk_with
start_history P p readings e c h = rw h (record {
  count = refl;
  rest = agree (layout p) (stop_at P p) readings ∙ (rw (e, walk_with));
  whence = settled (layout p) (by_visits (layout p)) first (by_visits (layout p)).fresh;
  same = first_same (layout p) (good (layout p) e);
})

pub stopped_1 : (P : Pack) (p : Pgn) (readings w : List ℕ) → stop_1 (layout p) ≡ true
    → Told (walk P p readings) w w (record { end = Stop SetMisplaced; visits = 0 })
unfolding walk walk_with
stopped_1 P p readings w e = rw (walk, walk_with, e) (record { answer = refl; out = refl })

-- ---- the history alone

module _ (L : Layout) (laid : stop_1 L ≡ false) (stops : Stops) (A : Answer) (readings made : List ℕ) (n : ℕ) (c : Settled (ℕ → ℕ))
    (h : History L stops A readings made n c) where
  pub history_within : Within L c
  history_within = within_same L (good L laid) h.whence c h.same

  pub history_used : length readings ≤ n → (e : Ending) → e ≡ ending (used c) → EndsWith A made e
  unfolding walk_on
  history_used l e q = ends_at A made e (go c refl)
    where
      nothing : drop n readings ≡ []
      nothing = drop_of_length-le readings l

      go : (d : Settled (ℕ → ℕ)) → c ≡ d → A ≡ after made (no_visit (end_of e))
      go past d = h.rest ∙ (rw (nothing, q, d, walk_on))
      go halted d = h.rest ∙ (rw (nothing, q, d, walk_on))
      go (due p x) d = h.rest ∙ (rw (nothing, q, d, walk_on))

  module _ (low : n < length readings) (r : Stepped) (er : r ≡ one_step L stops c (get_or readings n 0)) where
    rest_step : walk_on L (by_place L) stops c (drop n readings) ≡ answer_of L stops (drop (n + 1) readings) r
    rest_step = rw (drop-cons readings n 0 low, er, add-one) (step_law L stops c (get_or readings n 0) (drop (suc n) readings))

    pub history_ended : (e : Ending) → r ≡ ended (end_of e) → EndsWith A made e
    history_ended e q = ends_at A made e (h.rest ∙ ap (after made) (rest_step ∙ ap (answer_of L stops (drop (n + 1) readings)) q))

    pub history_on : (k : ℕ) (d : Settled (ℕ → ℕ)) → r ≡ visited k d → History L stops A readings (made ++ k ∷ []) (n + 1) d
    history_on k d q =
        let same = next_law L stops (good L laid) (get_or readings n 0) h.whence c h.same in
        let y : (y : Settled Visits) × Same L y d = subst (Next L stops) (sym er ∙ q) same in
        let more = walk_on L (by_place L) stops d (drop (n + 1) readings) in
        record {
          count = omega (arith, h.count, length-append made (k ∷ []));
          rest =
              h.rest
              ∙ ap (after made) (rest_step ∙ ap (answer_of L stops (drop (n + 1) readings)) q)
              ∙ ap (λ (v : List ℕ). record { ends = more.ends; visits = v }) (joined made (k ∷ []) more.visits);
          whence = y.0;
          same = y.1;
        }

-- ---- with the buffer

pub start_going : (P : Pack) (p : Pgn) (readings w : List ℕ) → stop_1 (layout p) ≡ false
    → (c : Settled (ℕ → ℕ)) → c ≡ settled (layout p) (by_place (layout p)) first (by_place (layout p)).fresh
    → Going (layout p) (stop_at P p) (walk P p readings) readings w w 0 c
start_going P p readings w e c h = record { made = []; history = start_history P p readings e c h; buffer = record { stored = stored_none w 0 } }

module _ (L : Layout) (laid : stop_1 L ≡ false) (stops : Stops) (A : Answer) (readings w w' : List ℕ) (n : ℕ) (c : Settled (ℕ → ℕ))
    (g : Going L stops A readings w w' n c) where
  pub going_within : Within L c
  going_within = history_within L laid stops A readings g.made n c g.history

  pub going_used : length readings ≤ n → n ≤ length w → (e : Ending) → e ≡ ending (used c) → Told A w w' (record { end = e; visits = n })
  going_used l m e q = told_at A w w' g.made n e (history_used L laid stops A readings g.made n c g.history l e q) g.history.count g.buffer m

  module _ (low : n < length readings) (r : Stepped) (er : r ≡ one_step L stops c (get_or readings n 0)) where
    pub going_ended : (e : Ending) → r ≡ ended (end_of e) → n ≤ length w → Told A w w' (record { end = e; visits = n })
    going_ended e q m =
        told_at A w w' g.made n e (history_ended L laid stops A readings g.made n c g.history low r er e q) g.history.count g.buffer m

    pub going_on : (k : ℕ) (d : Settled (ℕ → ℕ)) → r ≡ visited k d → Going L stops A readings w (set w' n k) (n + 1) d
    going_on k d q = record {
      made = g.made ++ k ∷ [];
      history = history_on L laid stops A readings g.made n c g.history low r er k d q;
      buffer = record { stored = stored_one g.buffer.stored k };
    }

-- after a run
going_run : (L : Layout) → stop_1 L ≡ false → (stops : Stops) (A : Answer) (readings w : List ℕ) {v : List ℕ} {n : ℕ} {c : Settled (ℕ → ℕ)} {v' : List ℕ}
    {n' : ℕ} {c' : Settled (ℕ → ℕ)} → Run L stops readings v n c v' n' c' → Going L stops A readings w v n c → Going L stops A readings w v' n' c'
going_run L laid stops A readings w no_step g = g
going_run L laid stops A readings w (then_step {v'} {n'} {c'} R low k d e) g =
    going_on L laid stops A readings w v' n' c' (going_run L laid stops A readings w R g) low (visited k d) e k d refl

-- a turn of the loop until its step: the walk settles, and a run follows
pub going_turn : (L : Layout) → stop_1 L ≡ false → (stops : Stops) (A : Answer) (readings w : List ℕ) {v v' : List ℕ} {n n' : ℕ}
    {b c c' : Settled (ℕ → ℕ)} → c ≡ b → Going L stops A readings w v n b → Run L stops readings v n c v' n' c' → Going L stops A readings w v' n' c'
going_turn L laid stops A readings w {v} {n = n} e g R = going_run L laid stops A readings w R (subst (Going L stops A readings w v n) (sym e) g)
