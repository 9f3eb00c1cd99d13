use Rattle.rules.specs.PgnRange.{find_range}
use Rattle.rules.specs.Pdu1.{range_of}
use lib.ListN.{drop}
use mathlib.Core.List.{map}
use mathlib.Core.Path.{◌≡◌}
use Rattle.rules.proofs.pgn_range.find_range.Given as goal

abbrev pub invariant-loop-range : goal.invariant-loop-range
invariant-loop-range l =
    find_range (map range_of l.range-items) l.pgn ≡ find_range (map range_of (drop l.range-index l.range-items)) l.pgn
