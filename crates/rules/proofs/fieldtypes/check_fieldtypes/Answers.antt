use Rattle.rules.proofs.Emits.{reporting_turn}
use Rattle.rules.proofs.fieldtypes.check_fieldtypes.Goals as goal

pub loop-i-preserved : goal.loop-i-preserved
loop-i-preserved c = reporting_turn c.loop-i.invariant c.loop-i-test.true c.fieldtype_at.ensures
