use Rattle.walk.proofs.PassLaws.{look_four, look_hit, look_miss, look_all}
use Rattle.walk.specs.State.{place_of}
use Prim.Native.Nat.{◌<◌}
use mathlib.Core.Path.{◌∙◌}
use native.Mathlib.Omega.{arith}
use Rattle.walk.proofs.passes.Passes.look.Goals as goal

pub loop-k-init : goal.loop-k-init
loop-k-init c = λ L a. look_four a _

pub returns-then-arrives : goal.returns-then-arrives
returns-then-arrives c =
    let low : 0 < c.loop-k.k = omega (arith, c.loop-k-test.true) in
    record {
      stands = λ L a. look_hit a (place_of c.args.o.0 c.args.self.now.numbers) c.loop-k.k low c.arrives.result
          (rw c.left_at.ensures at c.arrives.ensures) c.if-arrives.true
          ∙ c.loop-k.invariant L a;
      few = omega (arith, low);
    }

pub loop-k-preserved : goal.loop-k-preserved
loop-k-preserved c =
    let low : 0 < c.loop-k.k = omega (arith, c.loop-k-test.true) in
    λ L a. look_miss a (place_of c.args.o.0 c.args.self.now.numbers) c.loop-k.k low c.arrives.result
    (rw c.left_at.ensures at c.arrives.ensures) c.if-arrives.false
    ∙ c.loop-k.invariant L a

pub returns : goal.returns
returns c =
    record {
      stands = λ L a. look_all L (place_of c.args.o.0 c.args.self.now.numbers) c.loop-k.k (omega (arith, c.loop-k-test.false))
          ∙ c.loop-k.invariant L a;
      few = omega (arith, c);
    }
