use Rattle.pack.specs.Records.{read_reference}
use Rattle.pack.proofs.CursorLaws.{item_then, item_done}
use Rattle.pack.proofs.cursor.Cursor.reference.Goals as goal

pub returns : goal.returns
unfolding read_reference
returns c =
    rw (c.of.ensures) (item_then _ _ c.code-kind.ensures (item_then _ _ c.text-name.ensures (item_done _ _ _)))
