use Rattle.pack.specs.Meaning.{pack_of}
use Rattle.pack.specs.Value.{lookup_at}
use Rattle.pack.proofs.Turns.{LookupsGiven}
use Rattle.rules.specs.LookupWiring.{referenced_by_lookup}
use Rattle.rules.specs.Marks.{Marked}
use Rattle.rules.specs.Search.{any_below}
use Prim.Native.Nat.{ℕ}
use mathlib.Core.Bool.{Bool}
use mathlib.Core.List.{List}
use lib.ListN.{length}
use Rattle.rules.proofs.lookup_marks.mark_by_lookups.Given as goal

-- whether lookup l references the name
abbrev pub has : List ℕ → List ℕ → ℕ → Bool
has s name l = referenced_by_lookup name (lookup_at (pack_of s).lookups l)

abbrev pub invariant-loop-lookup : goal.invariant-loop-lookup
invariant-loop-lookup l =
    let s = l.pack.bytes.now in
    record {
      given : LookupsGiven s l.pack.work.now (length (pack_of s).lookups) (length l.yielded) l.lookup-iterator;
      marked : Marked (pack_of s) l.initial.marks (λ n. any_below (has s n) (length l.yielded)) l.marks;
    }
