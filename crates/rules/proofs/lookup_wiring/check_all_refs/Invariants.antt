use Rattle.pack.specs.Meaning.{pack_of}
use Rattle.pack.specs.Notation.{concat_below}
use Rattle.pack.specs.Value.{pgns_of, pgn_at}
use Rattle.rules.specs.Emit.{Reporting}
use Rattle.rules.specs.LookupWiring.{check_lookup_refs}
use Rattle.rules.specs.declared.Finding.{Finding}
use Prim.Native.Nat.{ℕ}
use mathlib.Core.List.{List}
use lib.ListN.{length}
use Rattle.rules.proofs.lookup_wiring.check_all_refs.Given as goal

-- the findings of tree t
abbrev pub of_tree : List ℕ → ℕ → List Finding
of_tree s t = concat_below (λ i. check_lookup_refs (pack_of s).lookups t i (pgn_at (pack_of s) t i)) (length (pgns_of (pack_of s) t))

abbrev pub invariant-loop-protocol : goal.invariant-loop-protocol
invariant-loop-protocol l = Reporting l.initial.out (of_tree l.pack.bytes.now) 3 l.protocol-index l.out
