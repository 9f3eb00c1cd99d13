use Rattle.rules.specs.LookupWiring.{referenced_by_tree}
use mathlib.Core.Path.{◌∙◌, sym}
use Rattle.rules.proofs.PgnSearches.{pgn_missed, pgn_hit, no_pgn}
use Rattle.rules.proofs.lookup_uses.referenced_by_tree.Goals as goal

pub returns-then-referenced_by_pgn : goal.returns-then-referenced_by_pgn
unfolding referenced_by_tree
returns-then-referenced_by_pgn c =
    sym (pgn_hit c.loop-pgn.invariant c.in-Some.pgn c.next.new.self c.in-Some.ensures.steps
    (λ u. sym (rw (u.bytes, u.tree, u.item) at c.referenced_by_pgn.ensures) ∙ c.if-referenced_by_pgn.true))

pub loop-pgn-preserved : goal.loop-pgn-preserved
loop-pgn-preserved c =
    pgn_missed c.loop-pgn.invariant c.in-Some.pgn c.next.new.self c.in-Some.ensures.steps
    (λ u. sym (rw (u.bytes, u.tree, u.item) at c.referenced_by_pgn.ensures) ∙ c.if-referenced_by_pgn.false)

pub returns : goal.returns
unfolding referenced_by_tree
returns c = sym (no_pgn c.loop-pgn.invariant c.in-None.ensures.steps.0)
