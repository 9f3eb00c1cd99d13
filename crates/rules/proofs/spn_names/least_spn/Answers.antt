use Rattle.pack.specs.Meaning.{pack_of}
use Rattle.rules.specs.SearchLaws.{min_turn}
use Rattle.rules.specs.SpnNames.{least_spn_in, least_spn}
use Rattle.rules.proofs.PgnSearches.{searched_turn, searched_all}
use mathlib.Core.Path.{◌∙◌}
use lib.ListN.{length}
use Rattle.rules.proofs.spn_names.least_spn.Goals as goal

pub loop-pgn-preserved : goal.loop-pgn-preserved
loop-pgn-preserved c =
    searched_turn c.in-Some.pgn c.next.new.self c.loop-pgn.invariant c.in-Some.ensures.steps
    (λ u found.
    let e = rw (u.bytes, u.tree, u.item) at c.least_spn_in-one.ensures in
    c.smaller-found.ensures
    ∙ (rw (min_turn (least_spn_in (pack_of c.args.pack.now.bytes.now).pgns_j1939 c.args.b) (length c.loop-pgn.yielded), ← e, found)))

pub returns : goal.returns
unfolding least_spn
returns c = searched_all c.loop-pgn.invariant c.in-None.ensures.steps.0
