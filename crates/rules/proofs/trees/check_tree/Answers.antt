use Rattle.rules.specs.Check.{check_tree}
use Rattle.rules.proofs.Emits.{emitted_append}
use Rattle.rules.proofs.trees.check_tree.Goals as goal

pub returns : goal.returns
unfolding check_tree
returns c = emitted_append (emitted_append c.check_pgns.ensures c.check_variants.ensures) c.check_unique_ids.ensures
