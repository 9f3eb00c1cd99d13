use Rattle.walk.specs.Steps.{one_step}
use native.Mathlib.Omega.{arith}
use Rattle.walk.proofs.steps.step.Goals as goal

pub returns-in-Halted : goal.returns-in-Halted
unfolding one_step
returns-in-Halted c = record { step = (rw (c.in-Halted.is, one_step)); ahead = omega (arith, c); remembered = c.requires.remembered }

pub returns-in-Past : goal.returns-in-Past
unfolding one_step
returns-in-Past c = record { step = (rw (c.in-Past.is, one_step)); ahead = omega (arith, c); remembered = c.requires.remembered }
