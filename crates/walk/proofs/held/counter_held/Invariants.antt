use Rattle.walk.specs.SetsOf.{SetsAre}
use Rattle.walk.specs.Layout.{Layout, holds, nested_in}
use mathlib.Core.Bool.{true, not, ◌||◌}
use mathlib.Core.Path.{◌≡◌}
use Prim.Native.Nat.{ℕ, ◌<◌}
use Rattle.walk.proofs.held.counter_held.Given as goal

abbrev pub invariant-loop-j : goal.invariant-loop-j
invariant-loop-j l =
    record { so_far : (L : Layout) → SetsAre L l.sets → (i : ℕ) → i < l.j → (not (holds L i l.counter.0) || nested_in L i l.k) ≡ true }
