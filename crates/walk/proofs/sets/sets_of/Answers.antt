use Rattle.walk.proofs.SetValues.{four_sets}
use Rattle.pack.proofs.Sets.{sets_few}
use Rattle.pack.specs.Loaded.{pgn_value}
use Rattle.pack.specs.Trees.{tree_number}
use Rattle.walk.proofs.sets.sets_of.Goals as goal

pub returns : goal.returns
returns c =
    let g = c.args.pgn.now in
    four_sets (pgn_value g) (sets_few g.pack.bytes.now (tree_number g.protocol) g.item)
    c.set_in-first.result c.set_in-second.result c.set_in-third.result c.set_in-fourth.result g.view.fields g.is.fields c.set_in-first.ensures
    c.set_in-second.ensures c.set_in-third.ensures c.set_in-fourth.ensures
