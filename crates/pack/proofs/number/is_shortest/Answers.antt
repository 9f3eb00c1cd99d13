use Rattle.pack.specs.Items.{shortest}
use borrow.Author.Tests.{lt-ltb, le-ltb}
use Rattle.pack.proofs.number.is_shortest.Goals as goal

pub returns-then-at-e : goal.returns-then-at-e
unfolding shortest
returns-then-at-e c = simp (lt-ltb _ _ c.if-at-e.true)

pub returns : goal.returns
unfolding shortest
returns c = simp (le-ltb _ _ c.if-at-e.false)
