use Rattle.std.specs.Prelude.{if◌then◌else◌}
use Rattle.pack.specs.Meaning.{opt_order}
use Rattle.walk.specs.ByPlace.{counts}
use Rattle.walk.specs.SetsOf.{value_at}
use Rattle.walk.specs.State.{left_at, memory_of}
use mathlib.Core.Path.{◌≡◌}
use lib.ListN.{length}
use Prim.Native.Nat.{ℕ, ◌≤◌, ◌<◌, ◌-◌}
use Rattle.walk.proofs.passes.Passes.visit.Given as goal

-- of the sets below k the reading is noted
abbrev pub invariant-loop-k : goal.invariant-loop-k
invariant-loop-k l =
    record {
      same : length l.self.numbers ≡ length l.initial.self.numbers;
      below : (j : ℕ) → j < l.k
          → memory_of l.self.numbers j ≡ (if counts (opt_order (value_at l.sets j).counter) (l.o.0 - 1) then l.reading else memory_of l.initial.self.numbers j);
      above : (j : ℕ) → l.k ≤ j → memory_of l.self.numbers j ≡ memory_of l.initial.self.numbers j;
      left : (j : ℕ) → left_at l.self.numbers j ≡ left_at l.initial.self.numbers j;
    }
