use borrow.Author.Tests.{eq-eqb, ne_eqb}
use Rattle.scalings.proofs.finding_is.Goals as goal

pub returns-then-findings-i : goal.returns-then-findings-i
returns-then-findings-i c = rw (eq-eqb _ _ c.if-findings-i.true)

pub returns : goal.returns
returns c = rw (ne_eqb _ _ c.if-findings-i.false)
