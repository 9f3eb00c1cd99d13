use Rattle.pack.specs.Loaded.{lookup_value}
use Rattle.pack.specs.Value.{entry_at}
use Rattle.pack.specs.declared.loaded.LookupRef.{LookupRef}
use Rattle.rules.specs.Emit.{Reporting}
use Rattle.rules.specs.LookupNames.{same_name, same_name_as}
use Rattle.rules.specs.Search.{latest_below}
use Rattle.rules.specs.declared.Finding.{Finding}
use Prim.Native.Nat.{ℕ}
use mathlib.Core.List.{List}
use Rattle.rules.proofs.lookup_names.lookup_names_of.Given as goal

-- the finding of entry e
abbrev pub of_entry : LookupRef → ℕ → List Finding
of_entry x e =
    same_name_as x.item e
    (latest_below (λ d. same_name (lookup_value x).kind (entry_at (lookup_value x).entries d) (entry_at (lookup_value x).entries e)) e)

abbrev pub invariant-loop-e : goal.invariant-loop-e
invariant-loop-e l = Reporting l.initial.out (of_entry l.lookup) l.lookup.view.entries l.e l.out
