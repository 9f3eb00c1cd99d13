use Rattle.rules.proofs.Emits.{reporting_turn}
use Rattle.rules.proofs.spns.check_scalings.Goals as goal

pub loop-k-preserved : goal.loop-k-preserved
loop-k-preserved c = reporting_turn c.loop-k.invariant c.loop-k-test.true (rw (c.field_ref.ensures.pgn, c.field_ref.ensures.index) at c.spn_at.ensures)
