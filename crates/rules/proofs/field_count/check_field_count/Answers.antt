use Rattle.rules.specs.FieldCount.{check_field_count}
use Rattle.rules.proofs.field_count.check_field_count.Goals as goal

-- written out, so that the edit stock_finding is refused for this fact
pub returns : goal.returns
unfolding check_field_count
returns c = rw (← c.args.pgn.now.is.fields, ← c.pgn_error.ensures) c.put_if.ensures
