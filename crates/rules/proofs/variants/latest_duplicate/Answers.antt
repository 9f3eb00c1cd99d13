use Rattle.rules.specs.SearchLaws.{latest_turn}
use Rattle.rules.proofs.PgnSearches.{searched_turn, searched_to, searched_all}
use native.Mathlib.Omega.{arith}
use mathlib.Core.Path.{◌∙◌}
use lib.ListN.{length}
use Rattle.rules.proofs.variants.latest_duplicate.Invariants.{copies}
use Rattle.rules.proofs.variants.latest_duplicate.Goals as goal

pub returns-then-earlier-pgn : goal.returns-then-earlier-pgn
returns-then-earlier-pgn c =
    rw c.if-earlier-pgn.true at (searched_to c.in-Some.earlier c.next.new.self c.loop-earlier.invariant c.in-Some.ensures.steps).found

pub loop-earlier-preserved : goal.loop-earlier-preserved
loop-earlier-preserved c =
    searched_turn c.in-Some.earlier c.next.new.self c.loop-earlier.invariant c.in-Some.ensures.steps
    (λ u p.
    let e = rw (u.bytes, u.tree, u.item) at c.duplicate_at-hit.ensures in
    record {
      before = omega (arith, u.item, p.before, c.if-earlier-pgn.false);
      found = c.latest-found.ensures ∙ (rw (u.item, latest_turn (copies c.args.pgn.now c.args.number) (length c.loop-earlier.yielded), ← e, p.found));
    })

pub returns : goal.returns
returns c =
    absurd (let p = searched_all c.loop-earlier.invariant c.in-None.ensures.steps.0 in omega (arith, p.before, c.args.pgn.now.at.pgn))
