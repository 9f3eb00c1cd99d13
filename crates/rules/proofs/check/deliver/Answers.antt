use Rattle.rules.specs.Check.{check}
use Rattle.rules.proofs.Reports.{all_stored}
use Rattle.rules.proofs.Totals.{findings_few}
use native.Mathlib.Omega.{arith}
use mathlib.Core.Path.{◌∙◌}
use Rattle.pack.specs.Meaning.{pack_of}
use Rattle.rules.proofs.check.deliver.Goals as goal

pub returns-then-numbers-short : goal.returns-then-numbers-short
returns-then-numbers-short c = rw (c.requires.short c.if-numbers-short.true) at c.copy.ensures

pub returns : goal.returns
returns c =
    let s = c.args.pack.now.bytes.now in
    c.find_all.ensures.numbers
    ∙ all_stored (check (pack_of s)) c.args.findings.now (omega (arith, findings_few s c.args.pack.now.work.now c.args.pack.now.ready))
    (omega (arith, c.requires.counted, c.requires.room))
