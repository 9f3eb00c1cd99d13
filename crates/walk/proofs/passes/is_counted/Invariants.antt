use Rattle.walk.specs.SetsOf.{value_at}
use Rattle.rules.specs.Search.{any_below}
use Rattle.walk.specs.ByPlace.{counts}
use Rattle.pack.specs.Meaning.{opt_order}
use mathlib.Core.Path.{◌≡◌}
use mathlib.Core.Bool.{false}
use Prim.Native.Nat.{◌-◌}
use Rattle.walk.proofs.passes.is_counted.Given as goal

abbrev pub invariant-loop-k : goal.invariant-loop-k
invariant-loop-k l = any_below (λ j. counts (opt_order (value_at l.sets j).counter) (l.o.0 - 1)) l.k ≡ false
