use Rattle.pack.specs.Meaning.{pack_of}
use Rattle.pack.specs.Value.{lookup_at}
use Rattle.rules.specs.Findings.{report_if, lookup_warning}
use Rattle.rules.specs.LookupWiring.{referenced}
use Rattle.rules.specs.declared.Finding.{Finding}
use Prim.Native.Nat.{ℕ}
use mathlib.Core.Bool.{not}
use mathlib.Core.List.{List}
use Rattle.rules.proofs.Loops.{OverLookups}
use Rattle.rules.proofs.lookup_uses.check_by_search.Given as goal

-- the finding of lookup l
abbrev pub of_lookup : List ℕ → ℕ → List Finding
of_lookup s l = report_if (not (referenced (pack_of s) (lookup_at (pack_of s).lookups l).name)) (lookup_warning 22 1 l 0 0)

abbrev pub invariant-loop-lookup : goal.invariant-loop-lookup
invariant-loop-lookup l =
    OverLookups l.initial.out l.pack.bytes.now l.pack.work.now (of_lookup l.pack.bytes.now) l.yielded l.lookup-iterator l.out
