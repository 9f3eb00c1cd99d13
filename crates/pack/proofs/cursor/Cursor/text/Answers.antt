use Rattle.pack.proofs.CursorLaws.{leaf_read, leaf_none, leaf_text}
use Rattle.pack.proofs.cursor.Cursor.text.Goals as goal

pub returns-in-Ok : goal.returns-in-Ok
returns-in-Ok c = leaf_read leaf_text _ c.reader.ensures c.in-Ok.is c.text.ensures c.as_item.ensures

pub returns-in-Err : goal.returns-in-Err
returns-in-Err c = leaf_none leaf_text c.reader.ensures c.in-Err.is
