use mathlib.Core.Path.{sym, ◌∙◌}
use Prim.Native.Nat.{◌-◌}
use native.Mathlib.Omega.{arith}
use Rattle.walk.specs.ByPlace.{counts}
use Rattle.pack.specs.Meaning.{opt_order}
use Rattle.rules.specs.SearchLaws.{any_missed}
use Rattle.walk.specs.SetsOf.{value_at}
use Rattle.walk.proofs.Plain.{ends_behind}
use Rattle.walk.proofs.stretches.ending_behind.Goals as goal

-- src/stretches.rt:174:13
pub returns-then-same_order : goal.returns-then-same_order
returns-then-same_order c =
    let sets = c.args.sets in
    λ x h. let b = c.ending_of.ensures x h in
    ends_behind sets c.args.o.0 (c.loop-k.k - 1) (omega (arith, c.loop-k-test.true)) c.next_order-next.result.0
    c.next_order-next.ensures
    (sym c.same_order.ensures ∙ c.if-same_order.true) (λ j l m. c.loop-k.invariant j (omega (arith, l)) m)
    (any_missed (λ i. counts (opt_order (value_at sets i).counter) (c.args.o.0 - 1)) 4 (sym c.is_counted.ensures ∙ c.if-is_counted.false)) x
    b.set b.first b.within b.start
