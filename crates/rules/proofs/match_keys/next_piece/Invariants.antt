use Rattle.pack.specs.Loaded.{pgn_value}
use Rattle.rules.specs.MatchKeys.{pieces_from}
use Prim.Native.Nat.{◌-◌}
use mathlib.Core.Path.{◌≡◌}
use Rattle.rules.proofs.match_keys.next_piece.Given as goal

abbrev pub invariant-loop-k : goal.invariant-loop-k
invariant-loop-k l = pieces_from (pgn_value l.pgn) l.from (l.pgn.view.fields - l.from) ≡ pieces_from (pgn_value l.pgn) l.k (l.pgn.view.fields - l.k)
