use Rattle.pack.proofs.ReaderLaws.{out}
use Rattle.pack.specs.Items.{read_number}
use Rattle.pack.proofs.ReaderItems.{number_out}
use Rattle.pack.proofs.reader.Reader.number.Goals as goal

pub returns-in_err-n : goal.returns-in_err-n
returns-in_err-n c = out _ c.from_residual.ensures.1 (number_out c.in_err-n.ensures.read)

pub returns : goal.returns
unfolding read_number
returns c = c.in_ok-n.ensures.read
