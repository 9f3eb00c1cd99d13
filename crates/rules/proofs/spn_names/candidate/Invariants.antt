use Rattle.pack.specs.Items.{bytes_of}
use Rattle.pack.specs.Meaning.{pack_of}
use Rattle.rules.specs.Namers.{candidate_in}
use Rattle.rules.specs.Search.{max_below}
use mathlib.Core.Path.{◌≡◌}
use Rattle.rules.proofs.PgnSearches.{Searched}
use Rattle.rules.proofs.spn_names.candidate.Given as goal

abbrev pub invariant-loop-pgn : goal.invariant-loop-pgn
invariant-loop-pgn l =
    let s = l.pack.bytes.now in
    Searched s l.pack.work.now 1 (λ n. l.found ≡ max_below (candidate_in (pack_of s).pgns_j1939 (bytes_of s l.name) l.b) n) l.yielded l.pgn-iterator
