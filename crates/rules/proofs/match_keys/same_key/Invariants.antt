use lib.ListN.{length}
use Rattle.rules.specs.MatchKeys.{pieces_from, to_come, KeyHolds}
use mathlib.Core.Path.{◌≡◌}
use Rattle.pack.specs.Loaded.{pgn_value}
use Rattle.pack.specs.Notation.{◌≐◌}
use Rattle.rules.proofs.match_keys.same_key.Given as goal

abbrev pub invariant-loop-x : goal.invariant-loop-x
invariant-loop-x l =
    record {
      left : KeyHolds l.a l.pgn.view.fields;
      right : KeyHolds l.b l.other.view.fields;
      rest : (pieces_from (pgn_value l.pgn) 0 (length (pgn_value l.pgn).fields) ≐ pieces_from (pgn_value l.other) 0 (length (pgn_value l.other).fields))
          ≡ (to_come l.pgn.pack.bytes.now (pgn_value l.pgn) l.a ≐ to_come l.other.pack.bytes.now (pgn_value l.other) l.b);
    }

abbrev pub decreases-loop-x : goal.decreases-loop-x
decreases-loop-x l = length (to_come l.pgn.pack.bytes.now (pgn_value l.pgn) l.a)
