use Rattle.pack.specs.Records.{read_field}
use Rattle.pack.proofs.CursorLaws.{item_then, item_done}
use Rattle.pack.proofs.cursor.Cursor.field.Goals as goal

pub returns : goal.returns
unfolding read_field
returns c =
    record {
      is = rw c.field_flags.ensures (item_then _ _ c.names-names.ensures (item_then _ _ c.index-ft.ensures (item_then _ _
          c.code-flags.ensures
          (item_then _ _ c.scaling-scaling.ensures.is (item_then _ _ c.authored-authored.ensures (item_then _ _ c.links-links.ensures
          (item_done _ _ _)))))));
      bound = c.scaling-scaling.ensures.bound;
    }
