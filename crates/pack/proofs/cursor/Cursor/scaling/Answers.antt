use Rattle.pack.specs.Records.{read_scaling}
use Rattle.pack.proofs.CursorLaws.{item_then, item_done}
use Rattle.pack.proofs.cursor.Cursor.scaling.Goals as goal

pub returns : goal.returns
unfolding read_scaling
returns c =
    record {
      is = item_then _ _ c.sum-bits.ensures.is (item_then _ _ c.float-resolution.ensures (item_then _ _ c.float-offset.ensures (item_then _ _
          c.opt_text-unit.ensures (item_done _ _ _))));
      bound = c.sum-bits.ensures.bound;
    }
