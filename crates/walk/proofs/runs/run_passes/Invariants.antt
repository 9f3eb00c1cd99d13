use Rattle.walk.specs.Runs.{Straight, RunsTo}
use Rattle.walk.specs.Traces.{Later}
use mathlib.Core.Path.{◌≡◌}
use Prim.Native.Nat.{◌-◌, ◌≤◌}
use lib.ListN.{length}
use Rattle.walk.specs.declared.sets.Sets.{Sets}
use Rattle.walk.proofs.runs.run_passes.Given as goal

abbrev pub invariant-loop-from : goal.invariant-loop-from
invariant-loop-from l =
    record {
      first : 1 ≤ l.here.0;
      within : (v : Sets) → Straight v l.fn.stretch → l.here.0 ≤ v.fields;
      begun : l.trace.made ≤ l.initial.trace.made → l.here.0 ≡ l.from.0;
      later : Later l.initial.trace l.trace;
      runs : (v : Sets) → Straight v l.fn.stretch → RunsTo v l.memory l.initial.trace l.fn.stretch.from.0 l.initial.passes.numbers l.trace l.here.0
          l.passes.numbers;
    }

abbrev pub decreases-loop-from : goal.decreases-loop-from
decreases-loop-from l = length l.trace.readings.now - l.trace.made
