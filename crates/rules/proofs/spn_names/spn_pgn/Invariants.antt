use Rattle.rules.specs.Namers.{NamesAmong}
use Rattle.rules.proofs.PgnSearches.{Searched}
use Rattle.rules.proofs.spn_names.spn_pgn.Given as goal

abbrev pub invariant-loop-pgn : goal.invariant-loop-pgn
invariant-loop-pgn l = Searched l.pack.bytes.now l.pack.work.now 1 (λ n. NamesAmong l.pack.bytes.now l.spn n l.best) l.yielded l.pgn-iterator
