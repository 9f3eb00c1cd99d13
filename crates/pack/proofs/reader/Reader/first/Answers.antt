use Rattle.pack.specs.Records.{read_first}
use Rattle.pack.proofs.KindLaws.{no_first}
use Rattle.pack.proofs.ReaderLaws.{done}
use Rattle.pack.proofs.reader.Reader.first.Goals as goal

pub returns-in-Triplet : goal.returns-in-Triplet
unfolding read_first
returns-in-Triplet c = rw c.in-Triplet.is c.wide.ensures.read

pub returns-in_default : goal.returns-in_default
returns-in_default c = rw (no_first c.args.kind c.in_default.not-Triplet) (done _ _)
