use Rattle.pack.specs.Records.{read_pgn}
use Rattle.pack.proofs.CursorLaws.{item_then, item_done}
use Rattle.pack.proofs.cursor.Cursor.pgn.Goals as goal

pub returns : goal.returns
unfolding read_pgn
returns c =
    rw (c.pgn_flags.ensures, c.of.ensures) (item_then _ _ c.number-pgn.ensures (item_then _ _ c.text-id.ensures (item_then _ _
    c.code-kind.ensures (item_then _ _ c.code-flags.ensures (item_then _ _ c.number-length.ensures (item_then _ _
    c.opt_bytes-minimum.ensures (item_then _ _ c.optional-first.ensures (item_then _ _ c.optional-second.ensures (item_then _ _
    c.number-fields.ensures (item_done _ _ _))))))))))
