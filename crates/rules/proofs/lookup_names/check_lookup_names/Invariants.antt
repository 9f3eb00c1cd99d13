use Rattle.pack.specs.Meaning.{pack_of}
use Rattle.pack.specs.Value.{lookup_at}
use Rattle.rules.specs.LookupNames.{lookup_names_of}
use Rattle.rules.specs.declared.Finding.{Finding}
use Prim.Native.Nat.{ℕ}
use mathlib.Core.List.{List}
use Rattle.rules.proofs.Loops.{OverLookups}
use Rattle.rules.proofs.lookup_names.check_lookup_names.Given as goal

-- the findings of lookup l
abbrev pub of_lookup : List ℕ → ℕ → List Finding
of_lookup s l = lookup_names_of l (lookup_at (pack_of s).lookups l)

abbrev pub invariant-loop-lookup : goal.invariant-loop-lookup
invariant-loop-lookup l =
    OverLookups l.initial.out l.pack.bytes.now l.pack.work.now (of_lookup l.pack.bytes.now) l.yielded l.lookup-iterator l.out
