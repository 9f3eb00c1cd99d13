use Rattle.pack.proofs.ReaderLaws.{out}
use Rattle.pack.proofs.ReaderItems.{optional_given, optional_out, optional_none, mark_out}
use Rattle.pack.proofs.reader.Reader.optional.Goals as goal

pub returns-in_err-there : goal.returns-in_err-there
returns-in_err-there g c = out _ c.from_residual.ensures.1 (mark_out _ c.in_err-there.ensures)

pub returns-in_err-value : goal.returns-in_err-value
returns-in_err-value g c = out _ c.from_residual-in_err-value.ensures.1 (optional_out _ c.in_ok-there.ensures c.if-there.true c.in_err-value.ensures)

pub returns-then-there : goal.returns-then-there
returns-then-there g c = optional_given _ c.in_ok-there.ensures c.if-there.true c.in_ok-value.ensures

pub returns : goal.returns
returns g c = optional_none _ c.in_ok-there.ensures c.if-there.false
