use Rattle.walk.proofs.Made.{later_none, later_then}
use Rattle.walk.proofs.Plain.{runs_none, runs_then}
use Rattle.walk.proofs.runs.run.Goals as goal

pub loop-end-init : goal.loop-end-init
loop-end-init c = record { first = c.requires.first; within = c.requires.within; later = later_none c.args.trace.now; runs = runs_none }

pub returns-in-Ends : goal.returns-in-Ends
returns-in-Ends c =
    let made = rw c.in-Ends.is at c.run_stretch.ensures in
    record {
      later = later_then c.loop-end.invariant.later made.later;
      runs = runs_then c.loop-end.invariant.runs c.loop-end.invariant.later
          (rw c.stretch_at-stretch.ensures.from at (made.runs c.args.sets c.stretch_at-stretch.ensures.straight));
    }

pub loop-end-preserved : goal.loop-end-preserved
loop-end-preserved c =
    let sets = c.args.sets in
    let made = rw c.in-Begins.is at c.run_stretch.ensures in
    record {
      first = made.first;
      within = made.within sets c.stretch_at-stretch.ensures.straight;
      later = later_then c.loop-end.invariant.later made.later;
      runs = runs_then c.loop-end.invariant.runs c.loop-end.invariant.later
          (rw c.stretch_at-stretch.ensures.from at (made.runs sets c.stretch_at-stretch.ensures.straight));
    }
