use Rattle.pack.specs.Loaded.{pgn_value}
use Rattle.pack.specs.Meaning.{pack_of}
use Rattle.pack.proofs.Few.{fields_few}
use Rattle.walk.specs.Layout.{layout}
use Rattle.walk.specs.State.{place_of, memory_of, settled_of}
use Rattle.walk.specs.Steps.{step_of, next_of, Within}
use Rattle.walk.specs.Stops.{stop_at}
use Rattle.walk.specs.Walk.{settled, walk}
use Rattle.walk.specs.ByPlace.{by_place}
use Rattle.walk.specs.declared.steps.Stepping.{Stepping}
use Rattle.walk.proofs.Made.{later_none, later_then, room_left, same_length}
use Rattle.walk.proofs.Walks.{start_going, going_within, going_used, going_ended, going_on, going_turn, begins_at, due_within}
use Prim.Native.Nat.{◌≤◌}
use mathlib.Core.Path.{sym, ap, subst}
use native.Mathlib.Omega.{arith}
use Rattle.walk.proofs.walk.walk_on.Goals as goal

pub loop-reading-init : goal.loop-reading-init
loop-reading-init c =
    let f = c.args.found.now in let w = c.args.passes.now.numbers in let t = c.args.trace.now in
    let P = pack_of f.pgn.pack.bytes.now in let p = pgn_value f.pgn in
    record {
      ahead = omega (arith, c.first_order-here.ensures);
      later = later_none t;
      going = rw c.requires.none (start_going P p t.readings.now t.out.now c.requires.no_stop_1
          (settled (layout p) (by_place (layout p)) (place_of c.first_order-here.result.0 w) (memory_of w))
          (begins_at (layout p) w c.requires.left c.requires.latest c.first_order-here.result.0 c.first_order-here.ensures));
      remembered = c.requires.remembered;
    }

pub run_on-ran-requires : goal.run_on-ran-requires
run_on-ran-requires c =
    let f = c.args.found.now in let p = pgn_value f.pgn in
    let w = c.loop-reading.passes.numbers in
    let w' = c.settle-settling.new.self.numbers in
    let within = going_within (layout p) c.requires.no_stop_1 _ _ _ _ _ _
    (settled (layout p) (by_place (layout p)) (place_of c.loop-reading.here.0 w) (memory_of w)) c.loop-reading.invariant.going in
    let e = c.settle-settling.ensures (layout p) f.sets_are c.loop-reading.invariant.ahead in
    record {
      due = λ o d. let b = due_within (layout p) c.settle-settling.result w' o d (subst (Within (layout p)) (sym e) within) in
          record { first = b.0; within = omega (arith, b.1, f.sets_are.fields) };
      small = omega (arith, f.sets_are.fields, fields_few f.pgn.at);
    }

pub returns-in_default : goal.returns-in_default
returns-in_default c =
    let f = c.args.found.now in let t = c.args.trace.now in
    let P = pack_of f.pgn.pack.bytes.now in let p = pgn_value f.pgn in
    let w' = c.run_on-ran.new.passes.numbers in
    let later = later_then c.loop-reading.invariant.later c.run_on-ran.ensures.later in
    let g = going_turn (layout p) c.requires.no_stop_1 (stop_at P p) (walk P p t.readings.now) t.readings.now t.out.now
    (c.settle-settling.ensures (layout p) f.sets_are c.loop-reading.invariant.ahead) c.loop-reading.invariant.going
    (rw c.loop-reading.invariant.later.readings at
    (c.run_on-ran.ensures.ran (layout p) f.sets_are (stop_at P p) c.loop-reading.invariant.remembered.never)) in
    record {
      told = going_used (layout p) c.requires.no_stop_1 _ _ _ _ _ _ (settled_of c.run_on-ran.result w') g
          (omega (arith, same_length later, c.next.ensures.none c.in_default.is)) (room_left later) c.used.result (c.used.ensures w');
      same = later.same;
    }

pub step-requires : goal.step-requires
step-requires c =
    let f = c.args.found.now in let t = c.args.trace.now in
    let P = pack_of f.pgn.pack.bytes.now in let p = pgn_value f.pgn in
    let g = going_turn (layout p) c.requires.no_stop_1 (stop_at P p) (walk P p t.readings.now) t.readings.now t.out.now
    (c.settle-settling.ensures (layout p) f.sets_are c.loop-reading.invariant.ahead) c.loop-reading.invariant.going
    (rw c.loop-reading.invariant.later.readings at
    (c.run_on-ran.ensures.ran (layout p) f.sets_are (stop_at P p) c.loop-reading.invariant.remembered.never)) in
    record {
      remembered = c.loop-reading.invariant.remembered;
      within = going_within (layout p) c.requires.no_stop_1 _ _ _ _ _ _ (settled_of c.run_on-ran.result c.run_on-ran.new.passes.numbers) g;
    }

pub returns-in-Ended : goal.returns-in-Ended
returns-in-Ended c =
    let f = c.args.found.now in let t = c.args.trace.now in
    let P = pack_of f.pgn.pack.bytes.now in let p = pgn_value f.pgn in
    let w' = c.step.new.passes.numbers in
    let later = later_then c.loop-reading.invariant.later c.run_on-ran.ensures.later in
    let next = c.next.ensures.some c.in-Some.reading c.in-Some.is in
    let g = going_turn (layout p) c.requires.no_stop_1 (stop_at P p) (walk P p t.readings.now) t.readings.now t.out.now
    (c.settle-settling.ensures (layout p) f.sets_are c.loop-reading.invariant.ahead) c.loop-reading.invariant.going
    (rw c.loop-reading.invariant.later.readings at
    (c.run_on-ran.ensures.ran (layout p) f.sets_are (stop_at P p) c.loop-reading.invariant.remembered.never)) in
    record {
      told = going_ended (layout p) c.requires.no_stop_1 _ _ _ _ _ _ (settled_of c.run_on-ran.result c.run_on-ran.new.passes.numbers) g
          (omega (arith, same_length later, next.read))
          (step_of (layout p) c.step.result w') (rw (next.is, later.readings) at c.step.ensures.step) c.in-Ended.end
          (ap (λ (x : Stepping). step_of (layout p) x w') c.in-Ended.is) (room_left later);
      same = later.same;
    }

pub loop-reading-preserved : goal.loop-reading-preserved
loop-reading-preserved c =
    let f = c.args.found.now in let t = c.args.trace.now in
    let P = pack_of f.pgn.pack.bytes.now in let p = pgn_value f.pgn in
    let w' = c.step.new.passes.numbers in
    let n = c.in-Visited.next in
    let later = later_then c.loop-reading.invariant.later c.run_on-ran.ensures.later in
    let next = c.next.ensures.some c.in-Some.reading c.in-Some.is in
    let g = going_turn (layout p) c.requires.no_stop_1 (stop_at P p) (walk P p t.readings.now) t.readings.now t.out.now
    (c.settle-settling.ensures (layout p) f.sets_are c.loop-reading.invariant.ahead) c.loop-reading.invariant.going
    (rw c.loop-reading.invariant.later.readings at
    (c.run_on-ran.ensures.ran (layout p) f.sets_are (stop_at P p) c.loop-reading.invariant.remembered.never)) in
    record {
      ahead = subst (λ (x : Stepping). 1 ≤ next_of x) c.in-Visited.is c.step.ensures.ahead;
      later = later_then later c.visit.ensures.later;
      going = rw (c.visit.ensures.made, c.visit.ensures.out) (going_on (layout p) c.requires.no_stop_1 _ _ _ _ _ _
          (settled_of c.run_on-ran.result c.run_on-ran.new.passes.numbers) g (omega (arith, same_length later, next.read))
          (step_of (layout p) c.step.result w')
          (rw (next.is, later.readings) at c.step.ensures.step) c.in-Visited.field.0
          (settled (layout p) (by_place (layout p)) (place_of n.0 w') (memory_of w'))
          (ap (λ (x : Stepping). step_of (layout p) x w') c.in-Visited.is));
      remembered = c.step.ensures.remembered;
    }
