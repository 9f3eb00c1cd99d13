use Rattle.pack.specs.Meaning.{pack_of}
use Rattle.rules.specs.Check.{check_tree}
use Rattle.rules.specs.Emit.{Reporting}
use Rattle.rules.proofs.trees.check_trees.Given as goal

abbrev pub invariant-loop-protocol : goal.invariant-loop-protocol
invariant-loop-protocol l = Reporting l.initial.out (check_tree (pack_of l.pack.bytes.now)) 3 l.protocol-index l.out
