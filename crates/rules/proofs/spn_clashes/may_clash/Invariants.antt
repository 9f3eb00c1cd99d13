use Rattle.pack.specs.Meaning.{pack_of}
use Rattle.rules.specs.SpnClashes.{clash_from}
use Rattle.rules.proofs.PgnSearches.{NoneOfPgns}
use Rattle.rules.proofs.spn_clashes.may_clash.Given as goal

abbrev pub invariant-loop-pgn : goal.invariant-loop-pgn
invariant-loop-pgn l =
    NoneOfPgns l.pack.bytes.now l.pack.work.now 1 (clash_from (pack_of l.pack.bytes.now).pgns_j1939) l.yielded l.pgn-iterator
