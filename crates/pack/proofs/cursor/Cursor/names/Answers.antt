use Rattle.pack.specs.Records.{read_names}
use Rattle.pack.proofs.CursorLaws.{item_then, item_done}
use Rattle.pack.proofs.cursor.Cursor.names.Goals as goal

pub returns : goal.returns
unfolding read_names
returns c =
    item_then _ _ c.text-id.ensures (item_then _ _ c.text-name.ensures (item_then _ _ c.text-kind.ensures (item_done _ _ _)))
