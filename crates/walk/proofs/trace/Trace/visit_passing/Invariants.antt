use Rattle.walk.specs.StopParts.{lets_pass}
use Rattle.walk.specs.Traces.{MakesAll}
use lib.ListN.{get_or}
use mathlib.Core.Bool.{true}
use mathlib.Core.Path.{◌≡◌}
use Prim.Native.Nat.{ℕ, ◌+◌, ◌<◌}
use Rattle.walk.proofs.trace.Trace.visit_passing.Given as goal

abbrev pub invariant-loop-j : goal.invariant-loop-j
invariant-loop-j l =
    record {
      makes : MakesAll l.initial.self l.k.0 l.j l.self;
      passing : (i : ℕ) → i < l.j → lets_pass l.memory (l.k.0 + i) (get_or l.initial.self.readings.now (l.initial.self.made + i) 0) ≡ true;
    }
