use Rattle.walk.proofs.PassLaws.{arrive_at, arrive_not_current, arrive_endless}
use Rattle.walk.proofs.passes.arrive.Goals as goal

pub returns-in_default : goal.returns-in_default
returns-in_default c = λ L a k is p po g gk. arrive_endless L k c.args.set is p g c.in_default.is

pub returns-then-counter-eq0 : goal.returns-then-counter-eq0
returns-then-counter-eq0 c = λ L a k is p po g gk. arrive_not_current L k c.args.set is p g c.in-Some.counter c.in-Some.is c.if-counter-eq0.true

pub returns-then-placed : goal.returns-then-placed
returns-then-placed c =
    λ L a k is p po g gk. arrive_at L k c.args.set is p g c.in-Some.counter c.in-Some.is c.if-counter-eq0.false c.args.o.0 po c.args.count gk
    c.placed.result (rw c.index_of.ensures at (c.placed.ensures L a)) _ (rw (← c.if-placed.true) at c.counted_passes.ensures)

pub returns : goal.returns
returns c =
    λ L a k is p po g gk. arrive_at L k c.args.set is p g c.in-Some.counter c.in-Some.is c.if-counter-eq0.false c.args.o.0 po c.args.count gk
    c.placed.result (rw c.index_of.ensures at (c.placed.ensures L a)) _ (rw c.if-placed.false)
