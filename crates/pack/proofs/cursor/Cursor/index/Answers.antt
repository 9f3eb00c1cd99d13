use Rattle.pack.proofs.CursorLaws.{leaf_read, leaf_none, leaf_index}
use Rattle.pack.proofs.cursor.Cursor.index.Goals as goal

pub returns-in-Ok : goal.returns-in-Ok
returns-in-Ok c = leaf_read (leaf_index c.args.count) _ c.reader.ensures c.in-Ok.is c.index.ensures c.as_item.ensures

pub returns-in-Err : goal.returns-in-Err
returns-in-Err c = leaf_none (leaf_index c.args.count) c.reader.ensures c.in-Err.is
