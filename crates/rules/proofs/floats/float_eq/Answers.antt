use Rattle.rules.specs.Floats.{float_eq}
use Rattle.rules.proofs.floats.float_eq.Goals as goal

pub returns : goal.returns
unfolding float_eq
returns c = rw (c.float.ensures, c.float-2.ensures)
