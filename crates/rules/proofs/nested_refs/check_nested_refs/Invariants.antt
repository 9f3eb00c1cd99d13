use Rattle.pack.specs.Loaded.{lookup_value}
use Rattle.pack.specs.Meaning.{pack_of}
use Rattle.pack.specs.Value.{entry_at}
use Rattle.pack.specs.declared.loaded.LookupRef.{LookupRef}
use Rattle.rules.specs.Emit.{Reporting}
use Rattle.rules.specs.LookupWiring.{fieldtype_entry_at}
use Rattle.rules.specs.declared.Finding.{Finding}
use Prim.Native.Nat.{ℕ}
use mathlib.Core.List.{List}
use Rattle.rules.proofs.nested_refs.check_nested_refs.Given as goal

-- the findings of entry e
abbrev pub of_entry : LookupRef → ℕ → List Finding
of_entry x e = fieldtype_entry_at (pack_of x.pack.bytes.now) x.item e (entry_at (lookup_value x).entries e)

abbrev pub invariant-loop-e : goal.invariant-loop-e
invariant-loop-e l = Reporting l.initial.out (of_entry l.lookup) l.lookup.view.entries l.e l.out
