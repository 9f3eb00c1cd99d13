use Rattle.walk.specs.Held.{dynamic_value_held}
use Rattle.walk.specs.StopParts.{IsSource}
use Rattle.rules.specs.Search.{every_below}
use Rattle.pack.specs.Loaded.{pgn_value}
use mathlib.Core.Path.{◌≡◌}
use mathlib.Core.Bool.{true}
use Rattle.pack.specs.Meaning.{pack_of}
use Rattle.walk.proofs.held.dynamic_values_held.Given as goal

abbrev pub invariant-loop-k : goal.invariant-loop-k
invariant-loop-k l =
    record {
      so_far : every_below (dynamic_value_held (pack_of l.found.pgn.pack.bytes.now) (pgn_value l.found.pgn)) l.k ≡ true;
      source : IsSource (pack_of l.found.pgn.pack.bytes.now) (pgn_value l.found.pgn) l.k l.giver;
    }
