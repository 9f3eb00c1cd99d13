use Rattle.walk.specs.StopParts.{Collected}
use Rattle.pack.specs.Loaded.{lookup_value}
use Rattle.pack.specs.Meaning.{pack_of}
use mathlib.Core.Path.{◌≡◌}
use Prim.Native.Nat.{◌≤◌}
use Rattle.walk.proofs.known.Memory.collect.Given as goal

abbrev pub invariant-loop-e : goal.invariant-loop-e
invariant-loop-e l =
    record {
      few : l.n ≤ 4;
      marks : l.self.marks ≡ l.initial.self.marks;
      collected : Collected (pack_of l.lookup.pack.bytes.now) (lookup_value l.lookup).entries l.e l.at l.initial.self.bad l.self.bad l.n;
    }
