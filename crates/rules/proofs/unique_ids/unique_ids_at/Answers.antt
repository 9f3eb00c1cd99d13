use Rattle.rules.proofs.Emits.{emitted_append}
use Rattle.rules.proofs.unique_ids.unique_ids_at.Goals as goal

pub returns : goal.returns
returns c = emitted_append c.same_id.ensures c.unique_field_ids.ensures
