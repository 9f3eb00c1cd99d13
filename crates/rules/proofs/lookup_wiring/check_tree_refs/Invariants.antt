use Rattle.pack.specs.Meaning.{pack_of}
use Rattle.pack.specs.Trees.{tree_number}
use Rattle.pack.specs.Value.{pgn_at}
use Rattle.rules.specs.LookupWiring.{check_lookup_refs}
use Rattle.rules.specs.declared.Finding.{Finding}
use Prim.Native.Nat.{ℕ}
use mathlib.Core.List.{List}
use Rattle.rules.proofs.Loops.{OverPgns}
use Rattle.rules.proofs.lookup_wiring.check_tree_refs.Given as goal

-- the findings of PGN i of tree t
abbrev pub of_pgn : List ℕ → ℕ → ℕ → List Finding
of_pgn s t i = check_lookup_refs (pack_of s).lookups t i (pgn_at (pack_of s) t i)

abbrev pub invariant-loop-pgn : goal.invariant-loop-pgn
invariant-loop-pgn l =
    OverPgns l.initial.out l.pack.bytes.now l.pack.work.now (tree_number l.fn.protocol) (of_pgn l.pack.bytes.now (tree_number l.fn.protocol)) l.yielded
    l.pgn-iterator l.out
