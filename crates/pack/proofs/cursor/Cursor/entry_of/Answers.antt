use Rattle.pack.specs.Records.{read_entry}
use Rattle.pack.proofs.CursorLaws.{item_then, item_done}
use Rattle.pack.proofs.cursor.Cursor.entry_of.Goals as goal

pub returns : goal.returns
unfolding read_entry
returns c =
    item_then _ _ c.first-first.ensures (item_then _ _ c.wide-value.ensures.is (item_then _ _ c.text-name.ensures (item_then _ _
    c.kind_part-rest.ensures (item_done _ _ _))))
