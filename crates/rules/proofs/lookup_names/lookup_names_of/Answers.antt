use Rattle.rules.proofs.Emits.{reporting_turn}
use Rattle.rules.proofs.lookup_names.lookup_names_of.Goals as goal

pub loop-e-preserved : goal.loop-e-preserved
loop-e-preserved c = reporting_turn c.loop-e.invariant c.loop-e-test.true c.same_name_at.ensures
