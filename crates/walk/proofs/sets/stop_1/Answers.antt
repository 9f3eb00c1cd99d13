use Rattle.walk.proofs.SetValues.{stop_met, stop_none}
use mathlib.Core.Path.{sym, ◌∙◌}
use native.Mathlib.Omega.{arith}
use Rattle.walk.proofs.sets.stop_1.Goals as goal

pub returns-then-stops : goal.returns-then-stops
returns-then-stops c = λ L a. sym (stop_met a c.loop-k.k (sym (c.stops.ensures L a) ∙ c.if-stops.true))

pub returns : goal.returns
returns c = λ L a. sym (stop_none a (λ j l. c.loop-k.invariant L a j (omega (arith, l, c.loop-k-test.false))))
