-- Runs: visits within a stretch, from a set's pass into the next, and how they follow one another.
use Rattle.std.specs.Prelude.{◌==◌}
use Prim.Native.Nat.{ℕ, zero, suc, pred, ◌+◌, ◌*◌, ◌-◌, ◌≤◌, ◌<◌}
use native.Mathlib.Omega.{arith}
use native.Mathlib.Numerals.{add-one}
use native.Mathlib.Decide.{dec_lt}
use mathlib.Core.Path.{◌≡◌, refl, sym, ap, subst, ◌∙◌, fun_ext}
use mathlib.Core.Bool.{Bool, true, false, ◌||◌}
use Rattle.std.specs.Prelude.{Option, None, Some}
use mathlib.Core.List.{List}
use lib.ListN.{length, get_or, set, get_or-eq_default}
use borrow.Author.Tests.{eq-eqb, eqb-true}
use Rattle.pack.specs.Meaning.{opt_order}
use Rattle.rules.specs.SearchLaws.{below_suc}
use Rattle.walk.specs.SetsOf.{SetsAre, value_at}
use Rattle.walk.specs.Layout.{Layout, no_set}
use Rattle.walk.specs.Passes.{Rest, endless, more, Place, goto, goto_with, ready, again, turn, begins, close, stand}
use Rattle.walk.specs.Walk.{Stops, Settled, due, settled, onward}
use Rattle.walk.specs.ByPlace.{placed, by_place, counts}
use Rattle.walk.specs.Runs.{edge, PlainAt, EndsBehind, Turns, RunsTo}
use Rattle.walk.specs.State.{left_of, left_at, place_of, memory_of}
use Rattle.walk.specs.Steps.{Run, no_step, then_step}
use Rattle.walk.specs.StopParts.{lets_pass}
use Rattle.walk.specs.Traces.{written, Later, Makes, MakesAll}
use Rattle.walk.specs.declared.known.Memory.{Memory}
use Rattle.walk.specs.declared.passes.Further.{Further}
use Rattle.walk.specs.declared.passes.Further.TheVariants.{Endless, More}
use Rattle.walk.specs.declared.stretches.Ending.{Ending}
use Rattle.walk.specs.declared.sets.Sets.{Sets}
use Rattle.walk.specs.declared.trace.Trace.{Trace}
use Rattle.walk.proofs.PassLaws.{round_ready, round_again, pass_begins, close_four, close_skip, closed_look, look_none, look_four}
use Rattle.walk.proofs.PassNumbers.{place_more, memory_more, put_there}
use Rattle.walk.proofs.Tests.{or_l, or_r}
use Rattle.walk.proofs.Walks.{step_visits}

turn_more : (n : ℕ) → (n ≡ 0 → ⊥) → begins (more (n - 1)) ≡ turn true (Some (more n))
turn_more zero h = absurd (h refl)
turn_more (suc n) h = let e : suc n - 1 ≡ n = omega arith in rw e

module _ {L : Layout} {v : Sets} (a : SetsAre L v) where
  -- a visit of a field that is no countField
  same_counts : (t : ℕ) → ((k : ℕ) → k < 4 → counts (opt_order (value_at v k).counter) t ≡ false) → (g : ℕ → ℕ) (r : ℕ) → (by_place L).visit g t r ≡ g
  same_counts t uncounted g r = fun_ext (λ k. go k (dec_lt k 4))
    where
      go : (k : ℕ) → Dec (k < 4) → (by_place L).visit g t r k ≡ g k
      go k (yes l) = rw (← (a.set k).counter, uncounted k l)
      go k (no l) = rw (get_or-eq_default L.sets no_set {n = k} (omega (arith, a.few)))

  pub uncounted_onward : (p : Place) (t : ℕ) → t ≡ p.order - 1 → ((k : ℕ) → k < 4 → counts (opt_order (value_at v k).counter) t ≡ false)
      → (g : ℕ → ℕ) (r : ℕ) → onward L (by_place L) p g r ≡ settled L (by_place L) (goto p (suc p.order)) g
  unfolding onward
  uncounted_onward p t et uncounted g r = let e : pred p.order ≡ t = omega (arith, et) in rw (e, same_counts t uncounted g r, onward)

  -- ---- within a stretch

  module _ (p : Place) (o : ℕ) (x : PlainAt v o) where
    abbrev next : Place
    next = goto p (suc o)

    no_edge : (k : ℕ) → k < 4 → (((value_at v k).start.0 == suc o) ≡ false) × ((suc o == (value_at v k).end.0) ≡ false)
    no_edge k l =
        let begins = (value_at v k).start.0 == suc o in
        let ends = suc o == (value_at v k).end.0 in
        let neither : (begins || ends) ≡ false = ap (edge (value_at v k)) (sym (add-one o)) ∙ x.edges k l in
        (or_l begins ends neither, or_r begins ends neither)

    stand_ready : stand L next ≡ ready next
    stand_ready =
        sym (close_four a next (omega arith))
        ∙ close_skip a next 0 4 (λ j l m. (no_edge j (omega (arith, m))).1)
        ∙ sym (closed_look a next (omega (arith, x.low)))
        ∙ sym (look_four a next)
        ∙ look_none a next 4 (λ j l. (no_edge j l).0)

    plain_settled : (g : ℕ → ℕ) → settled L (by_place L) next g ≡ due next g
    unfolding settled
    plain_settled g = sym (round_ready L g (length L.fields) (stand L next) next (sym stand_ready))

    plain_onward : (g : ℕ → ℕ) (r : ℕ) → onward L (by_place L) (goto p o) g r ≡ due next g
    plain_onward g r = uncounted_onward (goto p o) (o - 1) refl x.uncounted g r ∙ plain_settled g

  -- ---- from a set's pass into the next: set k ends behind the order o, and no later one does

  begins_again : (o : ℕ) (w w' : List ℕ) (k : ℕ) → k < 4 → suc o ≡ (value_at v k).end.0
      → ((j : ℕ) → k < j → j < 4 → (suc o == (value_at v j).end.0) ≡ false) → Turns w k w'
      → settled L (by_place L) (place_of (suc o) w) (memory_of w) ≡ due (place_of (value_at v k).start.0 w') (memory_of w')
  unfolding settled
  begins_again o w w' k low ends elsewhere t =
      let behind = place_of (suc o) w in
      let start = (value_at v k).start.0 in
      let left = left_of (left_at w k) in
      let n : 3 - k + suc k ≡ 4 = omega (arith, low) in
      let at_end = eq-eqb (suc o) (value_at v k).end.0 ends in
      let stands : stand L behind ≡ again k (goto_with behind start k (Some t.rest)) =
      sym (close_four a behind (omega arith))
      ∙ ap (λ (i : ℕ). close L i behind) (sym n)
      ∙ close_skip a behind (suc k) (3 - k) (λ j l m. elsewhere j (omega (arith, l)) (omega (arith, m, low)))
      ∙ pass_begins L k (value_at v k) (a.set k).end behind (turn (suc o == (value_at v k).end.0) left) refl t.rest
      (ap (λ (b : Bool). turn b left) at_end ∙ t.begins) (a.set k).start in
      sym (round_again L (memory_of w) (length L.fields) (stand L behind) k (goto_with behind start k (Some t.rest)) (sym stands))
      ∙ ap (λ (q : Place). due q (memory_of w)) (sym (t.place start))
      ∙ ap (due (place_of start w')) (sym t.memory)

-- the same of a visit there, whatever the reading
pub pass_onward : {L : Layout} {v : Sets} → SetsAre L v → (o : ℕ) (x : Ending) → EndsBehind v o x → (w w' : List ℕ) → Turns w x.set w' → (r : ℕ)
    → onward L (by_place L) (place_of o w) (memory_of w) r ≡ due (place_of x.start.0 w') (memory_of w')
pass_onward a o x b w w' t r =
    uncounted_onward a (place_of o w) (o - 1) refl b.uncounted (memory_of w) r
    ∙ begins_again a o w w' x.set b.set b.end b.last t
    ∙ ap (λ (n : ℕ). due (place_of n w') (memory_of w')) (sym b.start)

-- another pass of set k begins: of endless ones nothing changes, else one less is left
module _ (w : List ℕ) (room : length w ≡ 16) (k : ℕ) (low : k < 4) (x : Option Further) (ex : x ≡ left_at w k) where
  pub turns_endless : x ≡ Some Endless → Turns w k w
  turns_endless e = record {
    rest = endless;
    begins = ap (turn true) left;
    place = λ o. ap (λ (l : ℕ → Option Rest). record { order = o; left = l }) (sym (put_there (place_of o w).left k (Some endless) left));
    memory = refl;
  }
    where
      left : left_of (left_at w k) ≡ Some endless
      left = ap left_of (sym ex ∙ e)

  pub turns_more : (m : ℕ) → x ≡ Some (More m) → (m ≡ 0 → ⊥) → (w' : List ℕ) → w' ≡ set w (4 * k + 2) (m - 1) → Turns w k w'
  turns_more m e z w' ew = record {
    rest = more (m - 1);
    begins = ap (λ (v : Option Further). turn true (left_of v)) (sym ex ∙ e) ∙ sym (turn_more m z);
    place = λ o. ap (place_of o) ew ∙ place_more w room k low m (m - 1) (sym ex ∙ e) o;
    memory = ap memory_of ew ∙ memory_more w k (m - 1);
  }

-- set k ends behind the order o, and no later one does
pub ends_behind : (v : Sets) (o k : ℕ) → k < 4 → (next : ℕ) → next ≡ o + 1 → (next == (value_at v k).end.0) ≡ true
    → ((j : ℕ) → k < j → j < 4 → (next == (value_at v j).end.0) ≡ false)
    → ((j : ℕ) → j < 4 → counts (opt_order (value_at v j).counter) (o - 1) ≡ false) → (x : Ending) → x.set ≡ k
    → 1 ≤ (value_at v k).start.0 → (value_at v k).start.0 ≤ v.fields → x.start.0 ≡ (value_at v k).start.0 → EndsBehind v o x
ends_behind v o k low next en ends elsewhere uncounted x ek first within start =
    let n : next ≡ suc o = omega (arith, en) in
    record {
      set = omega (arith, ek, low);
      end = rw ek (sym n ∙ eqb-true next (value_at v k).end.0 ends);
      last = λ j l m. ap (λ (i : ℕ). i == (value_at v j).end.0) (sym n) ∙ elsewhere j (omega (arith, l, ek)) m;
      start = rw ek start;
      first = omega (arith, first, start);
      within = omega (arith, within, start);
      uncounted = uncounted;
    }

-- what holds below n and of n holds below n + 1
pub below_next : (Q : ℕ → Type 0) {n : ℕ} → ((i : ℕ) → i < n → Q i) → Q n → (i : ℕ) → i < n + 1 → Q i
below_next Q {n} below last i l = below_suc i n (omega (arith, l)) (below i) (λ e. subst Q (sym e) last)

-- the orders behind plain ones are the PGN's
pub plain_within : (v : Sets) (o k : ℕ) → o ≤ v.fields → ((j : ℕ) → j < k → PlainAt v (o + j)) → o + k ≤ v.fields
plain_within v o zero low plain = omega (arith, low)
plain_within v o (suc k) low plain = omega (arith, (plain k (omega arith)).low)

-- ---- one after the other

module _ {v : Sets} {memory : Memory} {s : Trace} {o : ℕ} {w : List ℕ} where
  pub runs_none : RunsTo v memory s o w s o w
  runs_none = record { run = λ L a stops harm. no_step }

  module _ {t : Trace} (x : ℕ) (w' : List ℕ) (R : RunsTo v memory s o w t x w') (one : 1 ≤ x) (later : Later s t) where
    -- so many visits within a stretch
    module _ (L : Layout) (a : SetsAre L v) (stops : Stops)
        (harm : (k reading : ℕ) → lets_pass memory k reading ≡ true → stops (placed L (suc k)) k reading ≡ None) where
      straight : (k : ℕ) → t.made + k ≤ length s.readings.now → ((j : ℕ) → j < k → PlainAt v (x + j))
          → ((j : ℕ) → j < k → lets_pass memory (x - 1 + j) (get_or s.readings.now (t.made + j) 0) ≡ true)
          → Run L stops s.readings.now s.out.now s.made (due (place_of o w) (memory_of w)) (written t.out.now t.made (x - 1) k) (t.made + k)
          (due (place_of (x + k) w') (memory_of w'))
      straight zero few plain passing =
          let e₁ : t.made + 0 ≡ t.made = omega arith in let e₂ : x + 0 ≡ x = omega arith in rw (e₁, e₂) (R.run L a stops harm)
      straight (suc k) few plain passing =
          let e₁ : t.made + suc k ≡ t.made + k + 1 = omega arith in let e₂ : x + suc k ≡ suc (x + k) = omega arith in
          let before = straight k (omega (arith, few)) (λ j l. plain j (omega (arith, l))) (λ j l. passing j (omega (arith, l))) in
          let reading = get_or s.readings.now (t.made + k) 0 in
          rw (e₁, e₂)
          (then_step before (omega (arith, few)) (x - 1 + k) (due (place_of (suc (x + k)) w') (memory_of w'))
          (step_visits L stops (place_of (x + k) w') (memory_of w') reading (x - 1 + k) (omega (arith, one)) (omega (arith, one))
          (sym (harm (x - 1 + k) reading (passing k (omega arith)))) refl
          (due (place_of (suc (x + k)) w') (memory_of w'))
          (sym (plain_onward a (place_of (x + k) w') (x + k) (plain k (omega arith)) (memory_of w') reading))))

    pub runs_leap : (k : ℕ) {t' : Trace} → MakesAll t (x - 1) k t' → ((j : ℕ) → j < k → PlainAt v (x + j))
        → ((j : ℕ) → j < k → lets_pass memory (x - 1 + j) (get_or t.readings.now (t.made + j) 0) ≡ true)
        → (u : ℕ) → u ≡ x + k → RunsTo v memory s o w t' u w'
    runs_leap k {t'} makes plain passing u eu =
        let few : t.made + k ≤ length s.readings.now =
        omega (arith, t'.read, makes.made, ap (λ (l : List ℕ). length l) (makes.later.readings ∙ later.readings)) in
        let passing' = rw later.readings at passing in
        record { run = λ L a stops harm. rw (eu, makes.made, makes.out) (straight L a stops harm k few plain passing') }

    pub runs_turn : {t' : Trace} → Makes t (x - 1) t' → lets_pass memory (x - 1) (get_or t.readings.now t.made 0) ≡ true → (u : ℕ) (w'' : List ℕ)
        → ((L : Layout) → SetsAre L v → (r : ℕ) → onward L (by_place L) (place_of x w') (memory_of w') r ≡ due (place_of u w'') (memory_of w''))
        → RunsTo v memory s o w t' u w''
    runs_turn {t'} makes passing u w'' to =
        let low : t.made < length s.readings.now =
        omega (arith, t'.read, makes.made, ap (λ (l : List ℕ). length l) (makes.later.readings ∙ later.readings)) in
        let passing' = rw later.readings at passing in
        let reading = get_or s.readings.now t.made 0 in
        record {
          run = λ L a stops harm. rw (makes.made, makes.out)
              (then_step (R.run L a stops harm) low (x - 1) (due (place_of u w'') (memory_of w''))
              (step_visits L stops (place_of x w') (memory_of w') reading (x - 1) refl one
              (sym (harm (x - 1) reading passing')) refl (due (place_of u w'') (memory_of w'')) (sym (to L a reading))));
        }

run_then : {L : Layout} {stops : Stops} {readings b b' : List ℕ} {n m : ℕ} {c d : Settled (ℕ → ℕ)} {b'' : List ℕ} {l : ℕ} {e : Settled (ℕ → ℕ)}
    → Run L stops readings b n c b' m d → Run L stops readings b' m d b'' l e → Run L stops readings b n c b'' l e
run_then R no_step = R
run_then R (then_step S low k d e) = then_step (run_then R S) low k d e

pub runs_then : {v : Sets} {memory : Memory} {s t u : Trace} {o x y : ℕ} {w w' w'' : List ℕ}
    → RunsTo v memory s o w t x w' → Later s t → RunsTo v memory t x w' u y w'' → RunsTo v memory s o w u y w''
runs_then R later S = record { run = λ L a stops harm. run_then (R.run L a stops harm) (rw later.readings at (S.run L a stops harm)) }
