use Rattle.rules.specs.SearchLaws.{any_hit}
use mathlib.Core.Path.{◌∙◌, sym}
use Rattle.rules.proofs.trailing_zero.any_moves.Invariants.{moving}
use Rattle.rules.proofs.trailing_zero.any_moves.Goals as goal

pub returns-then-moves : goal.returns-then-moves
returns-then-moves c =
    sym (any_hit (moving c.args.pgn.now) c.args.n c.loop-k.k c.loop-k-test.true
    (rw (← c.field-f.ensures) (sym c.moves.ensures ∙ c.if-moves.true)))
