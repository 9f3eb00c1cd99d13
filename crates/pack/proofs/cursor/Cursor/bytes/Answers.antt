use Rattle.pack.proofs.CursorLaws.{leaf_read, leaf_none, leaf_bytes}
use Rattle.pack.proofs.cursor.Cursor.bytes.Goals as goal

pub returns-in-Ok : goal.returns-in-Ok
returns-in-Ok c = leaf_read leaf_bytes _ c.reader.ensures c.in-Ok.is c.length.ensures c.as_item.ensures

pub returns-in-Err : goal.returns-in-Err
returns-in-Err c = leaf_none leaf_bytes c.reader.ensures c.in-Err.is
