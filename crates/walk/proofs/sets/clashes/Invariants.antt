use Rattle.walk.specs.SetsOf.{SetsAre}
use Rattle.walk.specs.Layout.{Layout, clash}
use Rattle.rules.specs.Search.{any_below}
use mathlib.Core.Bool.{false}
use mathlib.Core.Path.{◌≡◌}
use Rattle.walk.proofs.sets.clashes.Given as goal

abbrev pub invariant-loop-j : goal.invariant-loop-j
invariant-loop-j l = (L : Layout) → SetsAre L l.sets → any_below (λ i. clash L i l.k) l.j ≡ false
