use Rattle.walk.proofs.SetValues.{inside_by}
use borrow.Author.Tests.{eq-eqb, ne_eqb}
use Rattle.walk.proofs.sets.inside_previous.Goals as goal

pub returns-then-k-ne0 : goal.returns-then-k-ne0
returns-then-k-ne0 c = λ L a. (rw (inside_by a c.args.k, ne_eqb c.args.k 0 c.if-k-ne0.true) c.lies_inside.ensures)

pub returns-else-k-ne0 : goal.returns-else-k-ne0
returns-else-k-ne0 c = λ L a. (rw (inside_by a c.args.k, eq-eqb c.args.k 0 c.if-k-ne0.false))
