use Rattle.walk.proofs.PassLaws.{closed_beyond, closed_look}
use Rattle.walk.specs.State.{place_of}
use native.Mathlib.Omega.{arith}
use mathlib.Core.Path.{◌∙◌}
use Rattle.walk.proofs.passes.Passes.closed.Goals as goal

pub returns-then-sets-o : goal.returns-then-sets-o
returns-then-sets-o c =
    record { stands = λ L a. closed_beyond a (place_of c.args.o.0 c.args.self.now.numbers) c.if-sets-o.true; few = omega (arith, c) }

pub returns : goal.returns
returns c =
    record {
      stands =
          λ L a. c.look.ensures.stands L a ∙ closed_look a (place_of c.args.o.0 c.args.self.now.numbers) (omega (arith, c.if-sets-o.false));
      few = c.look.ensures.few;
    }
