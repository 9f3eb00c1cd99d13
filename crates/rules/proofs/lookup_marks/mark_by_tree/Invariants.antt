use Rattle.pack.specs.Meaning.{pack_of}
use Rattle.pack.specs.Trees.{tree_number}
use Rattle.pack.specs.Value.{pgns_of, pgn_at}
use Rattle.pack.proofs.Turns.{PgnsGiven}
use Rattle.rules.specs.LookupWiring.{referenced_by_pgn}
use Rattle.rules.specs.Marks.{Marked}
use Rattle.rules.specs.Search.{any_below}
use Prim.Native.Nat.{ℕ}
use mathlib.Core.Bool.{Bool}
use mathlib.Core.List.{List}
use lib.ListN.{length}
use Rattle.rules.proofs.lookup_marks.mark_by_tree.Given as goal

-- whether PGN i of tree t references the name
abbrev pub has : List ℕ → ℕ → List ℕ → ℕ → Bool
has s t name i = referenced_by_pgn name (pgn_at (pack_of s) t i)

abbrev pub invariant-loop-pgn : goal.invariant-loop-pgn
invariant-loop-pgn l =
    let s = l.pack.bytes.now in
    let t = tree_number l.fn.protocol in
    record {
      given : PgnsGiven s l.pack.work.now t (length (pgns_of (pack_of s) t)) (length l.yielded) l.pgn-iterator;
      marked : Marked (pack_of s) l.initial.marks (λ n. any_below (has s t n) (length l.yielded)) l.marks;
    }
