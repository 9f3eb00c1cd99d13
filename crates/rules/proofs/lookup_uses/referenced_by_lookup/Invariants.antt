use Rattle.pack.specs.Items.{bytes_of}
use Rattle.pack.specs.Loaded.{lookup_value}
use Rattle.pack.specs.Value.{entry_at}
use Rattle.pack.specs.declared.loaded.LookupRef.{LookupRef}
use Rattle.rules.specs.Model.{is_text}
use Rattle.rules.specs.Search.{any_below}
use Prim.Native.Nat.{ℕ}
use mathlib.Core.Bool.{Bool, false}
use mathlib.Core.List.{List}
use mathlib.Core.Path.{◌≡◌}
use Rattle.rules.proofs.lookup_uses.referenced_by_lookup.Given as goal

-- whether entry e nests the name
abbrev pub nests : LookupRef → List ℕ → ℕ → Bool
nests x name e = is_text (entry_at (lookup_value x).entries e).nested name

abbrev pub invariant-loop-e : goal.invariant-loop-e
invariant-loop-e l = any_below (nests l.lookup (bytes_of l.lookup.pack.bytes.now l.name)) l.e ≡ false
