use Rattle.walk.proofs.PassLaws.{closes_on, closes_left, closes_again, kept_memory}
use Rattle.std.specs.Prelude.{None, Some}
use Rattle.walk.specs.State.{turn_of, rest_of}
use mathlib.Core.Path.{refl, ap}
use native.Mathlib.Omega.{arith}
use Rattle.walk.proofs.passes.Passes.close.Goals as goal

pub returns-in-GoesOn : goal.returns-in-GoesOn
returns-in-GoesOn c =
    record {
      closes = λ L is_start is_end. closes_on L c.args.k c.args.set is_end c.args.o.0 c.args.self.now.numbers c.left_at.result c.left_at.ensures
          (turn_of c.turn.result) c.turn.ensures (ap turn_of c.in-GoesOn.is);
      memory = refl;
    }

pub returns-in-Leaves : goal.returns-in-Leaves
returns-in-Leaves c =
    let k = c.args.k in let passes = c.args.self.now.numbers in
    record {
      closes = λ L is_start is_end. closes_left L k c.args.set is_end c.args.o.0 passes c.left_at.result c.left_at.ensures (turn_of c.turn.result)
          c.turn.ensures (omega (arith, c)) c.requires None _ c.put_left.ensures (ap turn_of c.in-Leaves.is) refl;
      memory = kept_memory passes _ (omega (arith, c)) k c.requires None c.put_left.ensures;
    }

pub returns-in-Begins : goal.returns-in-Begins
returns-in-Begins c =
    let k = c.args.k in let passes = c.args.self.now.numbers in
    record {
      closes = λ L is_start is_end. closes_again L k c.args.set is_end c.args.o.0 passes c.left_at.result c.left_at.ensures (turn_of c.turn.result)
          c.turn.ensures (omega (arith, c)) c.requires (Some c.in-Begins.further) _ c.put_left-in-Begins.ensures (rest_of c.in-Begins.further)
          (ap turn_of c.in-Begins.is) refl is_start;
      memory = kept_memory passes _ (omega (arith, c)) k c.requires (Some c.in-Begins.further) c.put_left-in-Begins.ensures;
    }
