use Rattle.rules.specs.Check.{check_tree_continues}
use Rattle.rules.proofs.Loops.{pgns_reported, all_pgns}
use Rattle.rules.proofs.trees.check_tree_continues.Goals as goal

pub loop-pgn-preserved : goal.loop-pgn-preserved
loop-pgn-preserved c =
    pgns_reported c.in-Some.pgn c.next.new.self c.loop-pgn.invariant c.in-Some.ensures.steps
    (λ u. rw (u.bytes, u.tree, u.item) at c.check_continues.ensures)

pub returns : goal.returns
unfolding check_tree_continues
returns c = all_pgns c.loop-pgn.invariant c.in-None.ensures.steps.0
