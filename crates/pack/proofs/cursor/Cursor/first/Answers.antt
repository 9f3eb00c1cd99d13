use Rattle.pack.specs.Records.{read_first}
use Rattle.pack.proofs.KindLaws.{no_first}
use Rattle.pack.proofs.CursorLaws.{item_done}
use Rattle.pack.proofs.cursor.Cursor.first.Goals as goal

pub returns-in-Triplet : goal.returns-in-Triplet
unfolding read_first
returns-in-Triplet c = rw c.in-Triplet.is c.wide.ensures.is

pub returns-in_default : goal.returns-in_default
returns-in_default c = rw (no_first c.args.kind c.in_default.not-Triplet) (item_done _ _ _)
