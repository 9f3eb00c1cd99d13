use mathlib.Core.Path.{refl}
use Rattle.pack.specs.Items.{fresh, read_wide}
use Rattle.pack.proofs.Short.{one_byte}
use Rattle.pack.proofs.ReaderItems.{reads_ok}
use Rattle.pack.proofs.reader.Reader.wide.Goals as goal

pub returns-then-b-most-clause-read : goal.returns-then-b-most-clause-read
returns-then-b-most-clause-read c =
    let r = c.args.self in
    reads_ok r _ (read_wide c.args.most) _ _ (one_byte r.bytes.now (fresh r.at) refl c.if-at-self.true c.args.most c.if-b-lt128.true c.if-b-most.true) refl refl
