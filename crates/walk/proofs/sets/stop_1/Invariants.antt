use Rattle.walk.specs.SetsOf.{SetsAre}
use Rattle.walk.specs.Layout.{Layout, misplaced, clash}
use Rattle.rules.specs.Search.{any_below}
use mathlib.Core.Bool.{false, ◌||◌}
use mathlib.Core.Path.{◌≡◌}
use Prim.Native.Nat.{ℕ, ◌<◌}
use Rattle.walk.proofs.sets.stop_1.Given as goal

abbrev pub invariant-loop-k : goal.invariant-loop-k
invariant-loop-k l =
    (L : Layout) → SetsAre L l.sets → (j : ℕ) → j < l.k → (misplaced L j || any_below (λ i. clash L i j) j) ≡ false
