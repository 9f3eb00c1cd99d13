use native.Mathlib.Omega.{arith}
use Rattle.pack.proofs.CursorLaws.{leaf_read, leaf_none, leaf_wide}
use Rattle.pack.proofs.Reading.{wide_fits}
use Rattle.pack.proofs.cursor.Cursor.wide.Goals as goal

pub returns-in-Ok : goal.returns-in-Ok
returns-in-Ok c =
    let e = leaf_read (leaf_wide c.args.most) _ c.reader.ensures c.in-Ok.is c.wide.ensures.read c.as_item.ensures in
    record { is = e; bound = rw e (wide_fits c.args.most c.args.s.now c.args.self) }

pub returns-in-Err : goal.returns-in-Err
returns-in-Err c = record { is = leaf_none (leaf_wide c.args.most) c.reader.ensures c.in-Err.is; bound = omega arith }
