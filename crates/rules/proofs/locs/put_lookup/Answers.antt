use Rattle.rules.specs.PlaceText.{lookup_loc}
use Rattle.rules.proofs.TextOuts.{puts_append}
use Rattle.rules.proofs.locs.put_lookup.Goals as goal

pub returns : goal.returns
unfolding lookup_loc
returns c = puts_append (puts_append c.put_bytes.ensures (rw c.part.ensures at c.put_bytes-2.ensures)) c.put_bytes-3.ensures
