use Rattle.rules.specs.PlaceText.{group_loc}
use Rattle.rules.proofs.TextOuts.{puts_append}
use Rattle.rules.proofs.locs.put_group.Goals as goal

pub returns : goal.returns
unfolding group_loc
returns c = puts_append c.put_number.ensures c.put_bytes.ensures
