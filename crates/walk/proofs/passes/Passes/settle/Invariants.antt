use Rattle.walk.specs.Walk.{settle, settled}
use Rattle.walk.specs.State.{place_of, memory_of}
use Rattle.walk.specs.SetsOf.{SetsAre}
use Rattle.walk.specs.Passes.{stand}
use Rattle.walk.specs.Layout.{Layout}
use Rattle.walk.specs.ByPlace.{by_place}
use Prim.Native.Nat.{◌≤◌, ◌-◌}
use mathlib.Core.Path.{◌≡◌}
use Rattle.walk.proofs.passes.Passes.settle.Given as goal

abbrev pub invariant-loop : goal.invariant-loop
invariant-loop l =
    record {
      rest : (L : Layout) → SetsAre L l.sets → 1 ≤ l.initial.here.0
          → record {
            first : 1 ≤ l.here.0;
            goes : settle L (by_place L) (l.end - l.counter) (stand L (place_of l.here.0 l.self.numbers)) (memory_of l.self.numbers)
                ≡ settled L (by_place L) (place_of l.initial.here.0 l.initial.self.numbers) (memory_of l.initial.self.numbers);
          };
    }
