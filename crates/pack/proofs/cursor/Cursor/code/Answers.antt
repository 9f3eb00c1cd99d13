use Rattle.pack.proofs.CursorLaws.{leaf_read, leaf_none, leaf_code}
use Rattle.pack.proofs.cursor.Cursor.code.Goals as goal

pub returns-in-Ok : goal.returns-in-Ok
returns-in-Ok c = leaf_read (leaf_code c.args.most) _ c.reader.ensures c.in-Ok.is c.code.ensures c.as_item.ensures

pub returns-in-Err : goal.returns-in-Err
returns-in-Err c = leaf_none (leaf_code c.args.most) c.reader.ensures c.in-Err.is
