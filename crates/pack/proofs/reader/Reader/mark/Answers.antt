use Rattle.pack.proofs.ReaderLaws.{reads_stop, sticks_give}
use Rattle.pack.proofs.ReaderLaws.{out}
use Rattle.pack.specs.Items.{read_mark}
use Rattle.pack.proofs.ReaderItems.{reads}
use Rattle.pack.proofs.reader.Reader.mark.Goals as goal

pub returns-in_err-n : goal.returns-in_err-n
unfolding read_mark
returns-in_err-n c = out _ c.from_residual.ensures.1 (reads_stop _ _ c.in_err-n.ensures (λ _. sticks_give _))

pub returns : goal.returns
unfolding read_mark
returns c = search (reads, c.in_ok-n.ensures)
