use mathlib.Core.Path.{sym, ◌∙◌}
use Rattle.rules.specs.SpnClashes.{may_clash}
use Rattle.rules.proofs.PgnSearches.{pgn_missed, pgn_hit, no_pgn}
use Rattle.rules.proofs.spn_clashes.may_clash.Goals as goal

pub returns-then-clash_from : goal.returns-then-clash_from
unfolding may_clash
returns-then-clash_from c =
    sym (pgn_hit c.loop-pgn.invariant c.in-Some.pgn c.next.new.self c.in-Some.ensures.steps
    (λ u. sym (rw (u.bytes, u.tree, u.item) at c.clash_from.ensures) ∙ c.if-clash_from.true))

pub loop-pgn-preserved : goal.loop-pgn-preserved
loop-pgn-preserved c =
    pgn_missed c.loop-pgn.invariant c.in-Some.pgn c.next.new.self c.in-Some.ensures.steps
    (λ u. sym (rw (u.bytes, u.tree, u.item) at c.clash_from.ensures) ∙ c.if-clash_from.false)

pub returns : goal.returns
unfolding may_clash
returns c = sym (no_pgn c.loop-pgn.invariant c.in-None.ensures.steps.0)
