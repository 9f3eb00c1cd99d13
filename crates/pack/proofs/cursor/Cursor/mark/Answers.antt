use Rattle.pack.proofs.CursorLaws.{leaf_read, leaf_none, leaf_mark}
use Rattle.pack.proofs.cursor.Cursor.mark.Goals as goal

pub returns-in-Ok : goal.returns-in-Ok
returns-in-Ok c = leaf_read leaf_mark _ c.reader.ensures c.in-Ok.is c.mark.ensures c.as_item.ensures

pub returns-in-Err : goal.returns-in-Err
returns-in-Err c = leaf_none leaf_mark c.reader.ensures c.in-Err.is
