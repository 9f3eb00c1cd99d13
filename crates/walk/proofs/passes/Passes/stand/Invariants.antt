use Rattle.walk.specs.State.{place_of, memory_of}
use Rattle.walk.specs.SetsOf.{SetsAre}
use Rattle.walk.specs.Passes.{close, stand}
use Rattle.walk.specs.Layout.{Layout}
use Prim.Native.Nat.{◌≤◌}
use mathlib.Core.Path.{◌≡◌}
use Rattle.walk.proofs.passes.Passes.stand.Given as goal

abbrev pub invariant-loop-k : goal.invariant-loop-k
invariant-loop-k l =
    record {
      rest : (L : Layout) → SetsAre L l.sets → 1 ≤ l.o.0 → close L l.k (place_of l.o.0 l.self.numbers) ≡ stand L (place_of l.o.0 l.initial.self.numbers);
      memory : memory_of l.self.numbers ≡ memory_of l.initial.self.numbers;
    }
