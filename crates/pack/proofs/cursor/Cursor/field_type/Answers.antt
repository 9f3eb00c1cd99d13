use Rattle.pack.specs.Records.{read_type}
use Rattle.pack.proofs.CursorLaws.{item_then, item_done}
use Rattle.pack.proofs.cursor.Cursor.field_type.Goals as goal

pub returns : goal.returns
unfolding read_type
returns c =
    item_then _ _ c.text-name.ensures (item_then _ _ c.code-flags.ensures (item_then _ _ c.number-size.ensures (item_then _ _
    c.float-resolution.ensures (item_then _ _ c.text-root.ensures (item_done _ _ _)))))
