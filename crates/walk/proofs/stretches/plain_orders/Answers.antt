use mathlib.Core.Path.{◌≡◌, ap, ◌∙◌}
use native.Mathlib.Omega.{arith}
use Prim.Native.Nat.{◌+◌}
use Rattle.walk.specs.Runs.{edge}
use Rattle.walk.specs.SetsOf.{value_at}
use Rattle.walk.proofs.stretches.plain_orders.Goals as goal

-- src/stretches.rt:100:1
pub returns : goal.returns
returns c =
    record {
      small = omega (arith, c.loop-k.invariant.less, c.if-sets-o.false);
      plain = λ j l. let e : c.args.o.0 + j + 1 ≡ c.next_order-next.result.0 + j = omega (arith, c.next_order-next.ensures) in
          record {
            low = omega (arith, l, c.loop-k.invariant.less, c.if-sets-o.false);
            edges = λ k m. ap (edge (value_at c.args.sets k)) e ∙ c.loop-k.invariant.edges k (omega (arith, m, c.loop-k-test.false)) j l;
            uncounted = λ k m. c.loop-k.invariant.uncounted k (omega (arith, m, c.loop-k-test.false)) j l;
          };
    }
