use Rattle.walk.specs.State.{place_of}
use Rattle.walk.specs.SetsOf.{SetsAre}
use Rattle.walk.specs.Passes.{look}
use Rattle.walk.specs.Layout.{Layout}
use mathlib.Core.Path.{◌≡◌}
use lib.ListN.{length}
use Rattle.walk.proofs.passes.Passes.look.Given as goal

abbrev pub invariant-loop-k : goal.invariant-loop-k
invariant-loop-k l =
    (L : Layout) → SetsAre L l.sets → look L l.k (place_of l.o.0 l.self.numbers) ≡ look L (length L.sets) (place_of l.o.0 l.self.numbers)
