use Rattle.pack.proofs.Told.{promised}
use Rattle.pack.proofs.Loading.{too_long}
use Rattle.pack.proofs.load.load.Goals as goal

pub returns-then-pack-gt-MOST_BYTES : goal.returns-then-pack-gt-MOST_BYTES
returns-then-pack-gt-MOST_BYTES c =
    let a = too_long c.args.pack.now c.args.work.now c.if-pack-gt-MOST_BYTES.true in
    promised _ _ _ _ a.answer a.work
