use Rattle.rules.proofs.PgnSearches.{searched_at, searched_turn, searched_all}
use Rattle.rules.proofs.spn_names.spn_pgn.Goals as goal

pub better-best-requires : goal.better-best-requires
better-best-requires c =
    let u = searched_at c.in-Some.pgn c.next.new.self c.loop-pgn.invariant c.in-Some.ensures.steps in
    record { tree = u.tree; names = (rw (u.bytes, u.item) c.loop-pgn.invariant.holds) }

pub loop-pgn-preserved : goal.loop-pgn-preserved
loop-pgn-preserved c =
    searched_turn c.in-Some.pgn c.next.new.self c.loop-pgn.invariant c.in-Some.ensures.steps (λ u _. rw (u.bytes, u.item) at c.better-best.ensures)

pub returns : goal.returns
returns c = searched_all c.loop-pgn.invariant c.in-None.ensures.steps.0
