use Rattle.pack.specs.Loaded.{lookup_value}
use Rattle.pack.specs.Value.{entry_at}
use Rattle.pack.specs.declared.loaded.LookupRef.{LookupRef}
use Rattle.rules.specs.LookupWiring.{beyond_width}
use Rattle.rules.specs.Search.{any_below}
use Prim.Native.Nat.{ℕ}
use mathlib.Core.Bool.{Bool, false}
use mathlib.Core.Path.{◌≡◌}
use Rattle.rules.proofs.lookup_wiring.unreachable.Given as goal

-- whether entry e is beyond the width
abbrev pub beyond : LookupRef → ℕ → ℕ → Bool
beyond x width e = beyond_width (lookup_value x).kind width (entry_at (lookup_value x).entries e).value

abbrev pub invariant-loop-e : goal.invariant-loop-e
invariant-loop-e l = any_below (beyond l.lookup l.width) l.e ≡ false
