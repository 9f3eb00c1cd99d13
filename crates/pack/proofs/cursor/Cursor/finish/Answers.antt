use Rattle.pack.specs.Items.{finish}
use borrow.Author.Tests.{eq-eqb, ne_eqb, lt-ltb, le-ltb}
use Rattle.pack.proofs.cursor.Cursor.finish.Goals as goal

pub returns-then-self-ne0 : goal.returns-then-self-ne0
unfolding finish
returns-then-self-ne0 c = simp (ne_eqb _ _ c.if-self-ne0.true)

pub returns-then-self-s : goal.returns-then-self-s
unfolding finish
returns-then-self-s c = simp (c.refuse.ensures, eq-eqb _ _ c.if-self-ne0.false, lt-ltb _ _ c.if-self-s.true)

pub returns : goal.returns
unfolding finish
returns c = simp (eq-eqb _ _ c.if-self-ne0.false, le-ltb _ _ c.if-self-s.false)
