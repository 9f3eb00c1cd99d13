use Rattle.pack.specs.Meaning.{pack_of}
use Rattle.pack.specs.Ready.{place_of_pgn}
use mathlib.Core.Path.{◌≡◌}
use Rattle.rules.proofs.places.pgn_position.Given as goal

abbrev pub invariant-loop-i : goal.invariant-loop-i
invariant-loop-i l = l.p ≡ place_of_pgn (pack_of l.s) l.t l.i
