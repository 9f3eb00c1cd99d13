use Rattle.pack.specs.Items.{bytes_of}
use Rattle.pack.specs.Meaning.{pack_of}
use Rattle.rules.specs.Namers.{candidate_in, candidate}
use Rattle.rules.specs.SearchLaws.{max_turn}
use Rattle.rules.proofs.PgnSearches.{searched_turn, searched_all}
use mathlib.Core.Path.{◌∙◌}
use lib.ListN.{length}
use Rattle.rules.proofs.spn_names.candidate.Goals as goal

pub loop-pgn-preserved : goal.loop-pgn-preserved
loop-pgn-preserved c =
    let s = c.args.pack.now.bytes.now in
    searched_turn c.in-Some.pgn c.next.new.self c.loop-pgn.invariant c.in-Some.ensures.steps
    (λ u found.
    let e = rw (u.bytes, u.tree, u.item) at c.candidate_in-one.ensures in
    c.larger-found.ensures
    ∙ (rw (max_turn (candidate_in (pack_of s).pgns_j1939 (bytes_of s c.args.name) c.args.b) (length c.loop-pgn.yielded), ← e, found)))

pub returns : goal.returns
unfolding candidate
returns c = searched_all c.loop-pgn.invariant c.in-None.ensures.steps.0
