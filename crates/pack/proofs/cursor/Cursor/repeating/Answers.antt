use Rattle.pack.specs.Records.{read_repeating}
use Rattle.pack.proofs.CursorLaws.{item_then, item_done}
use Rattle.pack.proofs.cursor.Cursor.repeating.Goals as goal

pub returns : goal.returns
unfolding read_repeating
returns c =
    rw (c.order_of.ensures) (item_then _ _ c.number-count.ensures (item_then _ _ c.sum-start.ensures.is (item_then _ _
    c.opt_number-counter.ensures (item_then _ _ c.mark-nested.ensures (item_done _ _ _)))))
