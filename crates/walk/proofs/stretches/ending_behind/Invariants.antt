use Rattle.std.specs.Prelude.{◌==◌}
use mathlib.Core.Path.{◌≡◌}
use mathlib.Core.Bool.{false}
use Prim.Native.Nat.{ℕ, ◌≤◌, ◌<◌}
use Rattle.walk.specs.SetsOf.{value_at}
use Rattle.walk.proofs.stretches.ending_behind.Given as goal

abbrev pub invariant-loop-k : goal.invariant-loop-k
invariant-loop-k l = (j : ℕ) → l.k ≤ j → j < 4 → (l.next.0 == (value_at l.sets j).end.0) ≡ false
