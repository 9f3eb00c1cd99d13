use Rattle.walk.specs.SetsOf.{SetsAre}
use Rattle.walk.specs.Layout.{Layout, nested_in}
use mathlib.Core.Path.{◌≡◌}
use Rattle.walk.proofs.sets.nested_in.Given as goal

abbrev pub invariant-loop-inner : goal.invariant-loop-inner
invariant-loop-inner l = (L : Layout) → SetsAre L l.sets → nested_in L l.j l.k ≡ nested_in L l.j l.inner
