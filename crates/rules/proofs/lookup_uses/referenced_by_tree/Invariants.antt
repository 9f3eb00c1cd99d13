use Rattle.pack.specs.Items.{bytes_of}
use Rattle.pack.specs.Meaning.{pack_of}
use Rattle.pack.specs.Trees.{tree_number}
use Rattle.pack.specs.Value.{pgn_at}
use Rattle.rules.specs.LookupWiring.{referenced_by_pgn}
use Rattle.rules.proofs.PgnSearches.{NoneOfPgns}
use Rattle.rules.proofs.lookup_uses.referenced_by_tree.Given as goal

abbrev pub invariant-loop-pgn : goal.invariant-loop-pgn
invariant-loop-pgn l =
    let s = l.pack.bytes.now in
    let t = tree_number l.fn.protocol in
    NoneOfPgns s l.pack.work.now t (λ i. referenced_by_pgn (bytes_of s l.name) (pgn_at (pack_of s) t i)) l.yielded l.pgn-iterator
