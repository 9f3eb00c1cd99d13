use Rattle.pack.proofs.CursorLaws.{leaf_read, leaf_none, leaf_name}
use Rattle.pack.proofs.cursor.Cursor.name.Goals as goal

pub returns-in-Ok : goal.returns-in-Ok
returns-in-Ok c = leaf_read (leaf_name c.args.before) _ c.reader.ensures c.in-Ok.is c.name.ensures c.as_item.ensures

pub returns-in-Err : goal.returns-in-Err
returns-in-Err c = leaf_none (leaf_name c.args.before) c.reader.ensures c.in-Err.is
