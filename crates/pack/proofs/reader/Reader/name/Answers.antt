use Rattle.pack.proofs.ReaderLaws.{out}
use mathlib.Core.Path.{refl, sym, ◌∙◌}
use Rattle.pack.proofs.ReaderItems.{reads_name, name_order, name_out}
use Rattle.pack.proofs.reader.Reader.name.Goals as goal

pub returns-in_err-name : goal.returns-in_err-name
returns-in_err-name c = out _ c.from_residual.ensures.1 (name_out c.args.before c.in_err-name.ensures)

pub returns-in_default : goal.returns-in_default
returns-in_default c = reads_name c.args.before c.in_ok-name.ensures (rw c.in_default.is refl)

pub returns-then-text_precedes : goal.returns-then-text_precedes
returns-then-text_precedes c =
    reads_name c.args.before c.in_ok-name.ensures (rw (c.in-Some.is, c.in_ok-name.ensures.bytes) (sym c.text_precedes.ensures ∙ c.if-text_precedes.true))

pub returns : goal.returns
returns c =
    rw c.refusal.ensures
    (name_order c.args.before c.in_ok-name.ensures
    (rw (c.in-Some.is, c.in_ok-name.ensures.bytes) (sym c.text_precedes.ensures ∙ c.if-text_precedes.false)))
