use Rattle.rules.proofs.Emits.{reporting_turn}
use Rattle.rules.proofs.Loops.{tree_turn}
use Rattle.rules.proofs.lookup_wiring.check_all_refs.Goals as goal

pub loop-protocol-preserved : goal.loop-protocol-preserved
loop-protocol-preserved c =
    reporting_turn c.loop-protocol.invariant c.loop-protocol-test.true
    (rw (tree_turn c.loop-protocol.protocol-index c.loop-protocol-test.true) at c.check_tree_refs.ensures)
