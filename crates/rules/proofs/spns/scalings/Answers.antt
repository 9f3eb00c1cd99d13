use Rattle.pack.proofs.Turns.{pgns_turn}
use Rattle.rules.proofs.Loops.{pgns_reported, all_pgns}
use Rattle.rules.proofs.spns.scalings.Goals as goal

pub check_scalings-requires : goal.check_scalings-requires
check_scalings-requires c =
    let u = pgns_turn c.in-Some.pgn c.next.new.self c.loop-pgn.invariant.given c.in-Some.ensures.steps in
    u.0.tree

pub loop-pgn-preserved : goal.loop-pgn-preserved
loop-pgn-preserved c =
    pgns_reported c.in-Some.pgn c.next.new.self c.loop-pgn.invariant c.in-Some.ensures.steps (λ u. rw (u.bytes, u.tree, u.item) at c.check_scalings.ensures)

pub returns : goal.returns
returns c = all_pgns c.loop-pgn.invariant c.in-None.ensures.steps.0
