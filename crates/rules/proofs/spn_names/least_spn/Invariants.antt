use Rattle.pack.specs.Meaning.{pack_of}
use Rattle.rules.specs.SpnNames.{least_spn_in}
use Rattle.rules.specs.Search.{min_below}
use mathlib.Core.Path.{◌≡◌}
use Rattle.rules.proofs.PgnSearches.{Searched}
use Rattle.rules.proofs.spn_names.least_spn.Given as goal

abbrev pub invariant-loop-pgn : goal.invariant-loop-pgn
invariant-loop-pgn l =
    let s = l.pack.bytes.now in
    Searched s l.pack.work.now 1 (λ n. l.found ≡ min_below (least_spn_in (pack_of s).pgns_j1939 l.b) n) l.yielded l.pgn-iterator
