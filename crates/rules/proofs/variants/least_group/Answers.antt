use Rattle.pack.specs.Meaning.{pack_of}
use Rattle.pack.specs.Trees.{tree_number}
use Rattle.pack.specs.Value.{pgn_at}
use Rattle.rules.specs.SearchLaws.{min_turn}
use Rattle.rules.specs.Variants.{least_group}
use Rattle.rules.proofs.PgnSearches.{searched_turn, searched_all}
use mathlib.Core.Path.{◌∙◌}
use lib.ListN.{length}
use Rattle.rules.proofs.variants.least_group.Invariants.{counts}
use Rattle.rules.proofs.variants.least_group.Goals as goal

pub loop-pgn-preserved : goal.loop-pgn-preserved
loop-pgn-preserved c =
    let s = c.args.pack.now.bytes.now in let t = tree_number c.args.protocol in
    searched_turn c.in-Some.pgn c.next.new.self c.loop-pgn.invariant c.in-Some.ensures.steps
    (λ u found.
    let e = rw (u.bytes, u.tree, u.item) at c.number_from-one.ensures in
    c.smaller-found.ensures ∙ (rw (min_turn (λ i. counts (pgn_at (pack_of s) t i) c.args.b) (length c.loop-pgn.yielded), ← e, found)))

pub returns : goal.returns
unfolding least_group
returns c = searched_all c.loop-pgn.invariant c.in-None.ensures.steps.0
