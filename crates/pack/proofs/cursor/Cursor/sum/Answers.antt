use native.Mathlib.Omega.{arith}
use Rattle.pack.proofs.CursorLaws.{leaf_read, leaf_none, leaf_sum, sum_within}
use Rattle.pack.proofs.cursor.Cursor.sum.Goals as goal

pub returns-in-Ok : goal.returns-in-Ok
returns-in-Ok c =
    let e = leaf_read (leaf_sum c.args.other) _ c.reader.ensures c.in-Ok.is c.sum.ensures c.as_item.ensures in
    record { is = e; bound = rw e (sum_within c.args.other c.args.s.now c.args.self (omega (arith, c.ranges.other))) }

pub returns-in-Err : goal.returns-in-Err
returns-in-Err c = record { is = leaf_none (leaf_sum c.args.other) c.reader.ensures c.in-Err.is; bound = omega (arith, c.ranges.other) }
