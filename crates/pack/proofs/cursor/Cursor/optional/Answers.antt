use mathlib.Core.Path.{sym}
use native.Mathlib.Omega.{arith}
use Rattle.pack.specs.Items.{optional}
use Rattle.pack.proofs.CursorLaws.{item_then, item_done}
use Rattle.pack.proofs.cursor.Cursor.optional.Goals as goal

pub overflow_add-self : goal.overflow_add-self
overflow_add-self g c = omega (arith, c.absent.ensures.inside c.if-absent.true)

pub returns-then-absent : goal.returns-then-absent
unfolding optional
returns-then-absent g c = item_then _ _ (sym (c.absent.ensures.mark c.if-absent.true)) (rw c.fresh-next.ensures (item_done _ _ _))
