use Rattle.walk.specs.SetsOf.{value_at, holds_both}
use mathlib.Core.Bool.{true}
use mathlib.Core.Path.{◌≡◌}
use Prim.Native.Nat.{ℕ, ◌<◌}
use Rattle.walk.proofs.sets.sets_hold.Given as goal

abbrev pub invariant-loop-k : goal.invariant-loop-k
invariant-loop-k l = (j : ℕ) → j < l.k → holds_both (value_at l.sets j) l.a.0 l.b.0 ≡ true
