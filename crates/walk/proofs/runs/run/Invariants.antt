use Prim.Native.Nat.{◌-◌, ◌≤◌}
use lib.ListN.{length}
use Rattle.walk.specs.Runs.{RunsTo}
use Rattle.walk.specs.Traces.{Later}
use Rattle.walk.proofs.runs.run.Given as goal

abbrev pub invariant-loop-end : goal.invariant-loop-end
invariant-loop-end l =
    record {
      first : 1 ≤ l.here.0;
      within : l.here.0 ≤ l.sets.fields;
      later : Later l.initial.trace l.trace;
      runs : RunsTo l.sets l.memory l.initial.trace l.initial.here.0 l.initial.passes.numbers l.trace l.here.0 l.passes.numbers;
    }

abbrev pub decreases-loop-end : goal.decreases-loop-end
decreases-loop-end l = length l.trace.readings.now - l.trace.made
