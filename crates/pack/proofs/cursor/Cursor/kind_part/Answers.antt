use Rattle.pack.specs.Records.{read_kind_part}
use Rattle.pack.proofs.KindLaws.{none_behind}
use Rattle.pack.proofs.CursorLaws.{item_then, item_done}
use Rattle.pack.proofs.cursor.Cursor.kind_part.Goals as goal

pub returns-in-Fieldtype : goal.returns-in-Fieldtype
unfolding read_kind_part
returns-in-Fieldtype c =
    rw c.in-Fieldtype.is (item_then _ _ c.text-fieldtype.ensures (item_then _ _ c.opt_text-nested.ensures (item_done _ _ _)))

pub returns-in_default : goal.returns-in_default
returns-in_default c = rw (none_behind c.args.kind c.in_default.not-Fieldtype) (item_done _ _ _)
