use Rattle.pack.specs.Loaded.{lookup_value}
use Rattle.pack.specs.Value.{entry_at}
use Rattle.pack.specs.declared.loaded.LookupRef.{LookupRef}
use Rattle.rules.specs.LookupNames.{same_name}
use Rattle.rules.specs.Search.{latest_below}
use Prim.Native.Nat.{ℕ}
use mathlib.Core.Bool.{Bool}
use mathlib.Core.Path.{◌≡◌}
use Rattle.rules.proofs.lookup_names.latest_same_name.Given as goal

-- whether entry d has the name of entry e
abbrev pub named : LookupRef → ℕ → ℕ → Bool
named x e d = same_name (lookup_value x).kind (entry_at (lookup_value x).entries d) (entry_at (lookup_value x).entries e)

abbrev pub invariant-loop-d : goal.invariant-loop-d
invariant-loop-d l = l.found ≡ latest_below (named l.lookup l.e) l.d
