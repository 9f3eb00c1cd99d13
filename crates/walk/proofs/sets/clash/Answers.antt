use Rattle.walk.proofs.SetValues.{clash_at}
use Rattle.walk.proofs.sets.clash.Goals as goal

pub returns-then-share : goal.returns-then-share
returns-then-share c = λ L a. (rw (clash_at a c.args.j c.args.k, ← c.share.ensures, c.if-share.true, c.nested_in.ensures L a))

pub returns-else-share : goal.returns-else-share
returns-else-share c = λ L a. (rw (clash_at a c.args.j c.args.k, ← c.share.ensures, c.if-share.false))
