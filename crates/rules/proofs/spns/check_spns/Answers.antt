use Rattle.rules.proofs.Emits.{emitted_append}
use Rattle.rules.specs.Spns.{check_spns}
use Rattle.rules.proofs.spns.check_spns.Goals as goal

pub returns : goal.returns
unfolding check_spns
returns c = emitted_append (emitted_append c.elsewhere.ensures c.elsewhere-2.ensures) c.scalings.ensures
