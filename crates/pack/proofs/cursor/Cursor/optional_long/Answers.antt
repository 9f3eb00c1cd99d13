use Rattle.pack.specs.Items.{optional}
use Rattle.pack.proofs.CursorLaws.{item_then, item_done}
use Rattle.pack.proofs.cursor.Cursor.optional_long.Goals as goal

pub returns-then-there : goal.returns-then-there
unfolding optional
returns-then-there g c = item_then _ _ c.mark-there.ensures (rw c.if-there.true (item_then _ _ c.read_at-given.ensures (item_done _ _ _)))

pub returns : goal.returns
unfolding optional
returns g c = item_then _ _ c.mark-there.ensures (rw c.if-there.false (item_done _ _ _))
