use Rattle.pack.specs.Records.{read_links}
use Rattle.pack.proofs.CursorLaws.{item_then, item_done}
use Rattle.pack.proofs.cursor.Cursor.links.Goals as goal

pub returns : goal.returns
unfolding read_links
returns c =
    item_then _ _ c.optional-reference.ensures (item_then _ _ c.opt_number-special.ensures (item_then _ _ c.opt_text-length.ensures
    (item_then _ _ c.opt_text-trailing.ensures (item_then _ _ c.opt_sum-continuation.ensures (item_done _ _ _)))))
