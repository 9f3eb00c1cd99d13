use Rattle.pack.specs.Records.{read_authored}
use Rattle.pack.proofs.CursorLaws.{item_then, item_done}
use Rattle.pack.proofs.cursor.Cursor.authored.Goals as goal

pub returns : goal.returns
unfolding read_authored
returns c =
    item_then _ _ c.opt_float-resolution.ensures (item_then _ _ c.opt_float-offset.ensures (item_then _ _ c.opt_number-spn.ensures
    (item_then _ _ c.opt_text-continues.ensures (item_then _ _ c.opt_text-matched.ensures (item_done _ _ _)))))
