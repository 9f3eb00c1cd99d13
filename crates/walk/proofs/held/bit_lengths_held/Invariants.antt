use Rattle.walk.specs.Held.{bit_length_held}
use Rattle.rules.specs.Search.{every_below}
use mathlib.Core.Path.{◌≡◌}
use mathlib.Core.Bool.{true}
use Rattle.pack.specs.Loaded.{pgn_value}
use Rattle.walk.proofs.held.bit_lengths_held.Given as goal

abbrev pub invariant-loop-k : goal.invariant-loop-k
invariant-loop-k l =
    record {
      so_far : every_below (bit_length_held (pgn_value l.found.pgn)) l.k ≡ true;
    }
