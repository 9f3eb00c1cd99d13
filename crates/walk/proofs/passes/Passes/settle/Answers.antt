use Rattle.walk.proofs.PassLaws.{rounds_first, rounds_settled, rounds_none}
use Rattle.walk.specs.State.{place_of, memory_of}
use Rattle.walk.specs.Passes.{stand}
use native.Mathlib.Omega.{arith}
use Prim.Native.Nat.{◌+◌, ◌-◌}
use Rattle.walk.proofs.passes.Passes.settle.Goals as goal

pub loop-init : goal.loop-init
loop-init c =
    let w = c.args.self.now.numbers in
    record {
      rest = λ L a l. record { first = l; goes = rounds_first L (memory_of w) (place_of c.args.o.0 w) _ (omega (arith, a.fields)) };
    }

pub returns-in-Settled : goal.returns-in-Settled
returns-in-Settled c =
    let w = c.loop.self.numbers in
    let w' = c.settle_once.new.self.numbers in
    λ L a l. rounds_settled L (memory_of w) (stand L (place_of c.loop.here.0 w)) c.settle_once.result w'
    (c.settle_once.ensures.round L a (c.loop.invariant.rest L a l).first) _ (c.args.sets.fields + 1 - c.loop.counter) (omega (arith, c.loop-test.true))
    (c.loop.invariant.rest L a l).goes
    c.in-Settled.answer c.in-Settled.is

pub returns : goal.returns
returns c =
    let w = c.loop.self.numbers in
    λ L a l. rounds_none L (memory_of w) (stand L (place_of c.loop.here.0 w)) _ (c.args.sets.fields + 1 - c.loop.counter) (omega (arith, c.loop-test.false))
    (c.loop.invariant.rest L a l).goes
