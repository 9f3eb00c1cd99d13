use Rattle.pack.specs.Records.{read_lookup}
use Rattle.pack.proofs.CursorLaws.{item_then, item_done}
use Rattle.pack.proofs.cursor.Cursor.lookup.Goals as goal

pub returns : goal.returns
unfolding read_lookup
returns c =
    rw (c.of.ensures) (item_then _ _ c.name-name.ensures (item_then _ _ c.code-kind.ensures (item_then _ _ c.number-bits.ensures (item_then
    _ _ c.number-entries.ensures (item_done _ _ _)))))
