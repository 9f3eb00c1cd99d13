use Rattle.pack.proofs.ReaderLaws.{out}
use Rattle.pack.specs.Records.{read_kind_part}
use Rattle.pack.proofs.KindLaws.{none_behind}
use Rattle.pack.proofs.ReaderLaws.{done, reads_then, reads_stop, sticks_then, sticks_give}
use Rattle.pack.proofs.ReaderItems.{sticks_optional, sticks_text}
use Rattle.pack.proofs.reader.Reader.kind_part.Goals as goal

pub returns-in_err-fieldtype-in-Fieldtype : goal.returns-in_err-fieldtype-in-Fieldtype
unfolding read_kind_part
returns-in_err-fieldtype-in-Fieldtype c =
    out {d = c.args.self} _ c.from_residual.ensures.1 (rw c.in-Fieldtype.is (reads_stop _ _ c.in_err-fieldtype-in-Fieldtype.ensures (λ _. sticks_then
    _ _ (sticks_optional _
    sticks_text) (λ _. sticks_give _))))

pub returns-in_err-nested-in-Fieldtype : goal.returns-in_err-nested-in-Fieldtype
unfolding read_kind_part
returns-in_err-nested-in-Fieldtype c =
    out {d = c.in_ok-fieldtype-in-Fieldtype.next} _ c.from_residual-in_err-nested-in-Fieldtype.ensures.1 (rw c.in-Fieldtype.is (reads_then _ _
    c.in_ok-fieldtype-in-Fieldtype.ensures (reads_stop _ _ c.in_err-nested-in-Fieldtype.ensures
    (λ _. sticks_give _))))

pub returns-in_ok-nested-in-Fieldtype : goal.returns-in_ok-nested-in-Fieldtype
unfolding read_kind_part
returns-in_ok-nested-in-Fieldtype c =
    rw c.in-Fieldtype.is (reads_then _ _ c.in_ok-fieldtype-in-Fieldtype.ensures (reads_then _ _ c.in_ok-nested-in-Fieldtype.ensures (done _ _)))

pub returns-in_default : goal.returns-in_default
returns-in_default c = rw (none_behind c.args.kind c.in_default.not-Fieldtype) (done _ _)
