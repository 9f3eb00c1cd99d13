use Rattle.pack.specs.Meaning.{pack_of}
use Rattle.pack.specs.Value.{no_field_type}
use Rattle.rules.specs.Emit.{Reporting}
use Rattle.rules.specs.Fieldtypes.{fieldtype_at}
use Rattle.rules.specs.declared.Finding.{Finding}
use Prim.Native.Nat.{ℕ}
use mathlib.Core.List.{List}
use lib.ListN.{get_or}
use Rattle.rules.proofs.fieldtypes.check_fieldtypes.Given as goal

abbrev pub of_type : List ℕ → ℕ → List Finding
of_type s i = fieldtype_at i (get_or (pack_of s).fieldtypes i no_field_type)

abbrev pub invariant-loop-i : goal.invariant-loop-i
invariant-loop-i l = Reporting l.initial.out (of_type l.pack.bytes.now) l.pack.index.types.count l.i l.out
