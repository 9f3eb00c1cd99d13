use Rattle.rules.proofs.PlaceTexts.{prefix_is}
use Rattle.rules.proofs.TextOuts.{puts_append}
use Rattle.rules.proofs.locs.put_number.Goals as goal

pub returns : goal.returns
returns c =
    let prefix = rw (c.prefix.ensures, prefix_is c.args.protocol) at c.put_bytes.ensures in
    puts_append (puts_append prefix c.put_bytes-2.ensures) c.put_six_digits.ensures
