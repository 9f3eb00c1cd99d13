use Rattle.walk.specs.SetsOf.{SetsAre}
use Rattle.walk.specs.Layout.{Layout, set_at}
use Rattle.walk.specs.Held.{count_field_held}
use mathlib.Core.Bool.{true}
use mathlib.Core.Path.{◌≡◌}
use Prim.Native.Nat.{ℕ, ◌<◌}
use Rattle.walk.proofs.held.count_fields_held.Given as goal

abbrev pub invariant-loop-k : goal.invariant-loop-k
invariant-loop-k l = record {
  so_far : (L : Layout) → SetsAre L l.sets → (j : ℕ) → j < l.k → count_field_held L j
      (set_at L j).count_field ≡ true;
}
