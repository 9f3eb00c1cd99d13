use Rattle.pack.specs.Items.{bytes_of}
use Rattle.pack.specs.Meaning.{pack_of}
use Rattle.pack.specs.Value.{lookup_at}
use Rattle.rules.specs.LookupWiring.{referenced_by_lookup}
use Prim.Native.Nat.{ℕ}
use mathlib.Core.Bool.{Bool}
use mathlib.Core.List.{List}
use Rattle.rules.proofs.Loops.{NoneOfLookups}
use Rattle.rules.proofs.lookup_uses.referenced_by_lookups.Given as goal

-- whether lookup l nests the name
abbrev pub has : List ℕ → List ℕ → ℕ → Bool
has s name l = referenced_by_lookup name (lookup_at (pack_of s).lookups l)

abbrev pub invariant-loop-lookup : goal.invariant-loop-lookup
invariant-loop-lookup l =
    let s = l.pack.bytes.now in NoneOfLookups s l.pack.work.now (has s (bytes_of s l.name)) l.yielded l.lookup-iterator
