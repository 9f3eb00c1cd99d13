use Rattle.std.proofs.Common.{rules}
use Rattle.std.proofs.lemmas.Fmt.{length-decimal-le}
use Rattle.rules.proofs.DigitLaws.{decimal_is}
use Rattle.rules.proofs.match_keys.begun.Goals as goal

pub write_digits-at-requires : goal.write_digits-at-requires
write_digits-at-requires c = search (rules, length-decimal-le 10)

pub returns : goal.returns
returns c =
    record {
      byte = search rules;
      written = rw (decimal_is c.args.k (search rules)) at c.write_digits-at.ensures.written;
      text = search rules;
      field = search rules;
    }
