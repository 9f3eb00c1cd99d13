use Rattle.rules.specs.Check.{check}
use Rattle.rules.specs.Emit.{none_in, put_all}
use Rattle.rules.proofs.Reports.{buffer_short, all_put, counted, put_front}
use Rattle.rules.proofs.Totals.{findings_few}
use lib.ListN.{length}
use native.Mathlib.Omega.{arith}
use Prim.Native.Nat.{ℕ}
use mathlib.Core.Path.{◌≡◌}
use mathlib.Core.List.{List}
use Rattle.pack.specs.Meaning.{pack_of}
use Rattle.pack.specs.Ready.{Ready}
use Rattle.rules.proofs.check.report.Goals as goal

all_counted : {s w : List ℕ} {n : ℕ} (o : List ℕ) → Ready s w → n ≡ (put_all (none_in o) (check (pack_of s))).count → n ≡ length (check (pack_of s))
all_counted {s} {w} o r e = omega (arith, e, counted (check (pack_of s)) (none_in o) (omega (arith, findings_few s w r)))

pub overflow_mul-needed : goal.overflow_mul-needed
overflow_mul-needed c =
    let p = c.args.pack.now in
    omega (arith, all_counted _ p.ready c.find_all-count.ensures.count, findings_few p.bytes.now p.work.now p.ready)

pub returns-then-findings-needed : goal.returns-then-findings-needed
returns-then-findings-needed c =
    let p = c.args.pack.now in
    let n = all_counted _ p.ready c.find_all-count.ensures.count in
    let a = buffer_short (check (pack_of p.bytes.now)) c.args.findings.now c.find_all-count.result n c.if-findings-needed.true in
    record { answer = a.answer; findings = a.out }

pub deliver-requires : goal.deliver-requires
deliver-requires c =
    let p = c.args.pack.now in
    let n = all_counted _ p.ready c.find_all-count.ensures.count in
    record {
      counted = n;
      short = (λ h. rw (n, c.find_all-count.ensures.numbers) (put_front (check (pack_of p.bytes.now)) _
          (omega (arith, findings_few p.bytes.now p.work.now p.ready)) (omega (arith, n, h, c.find_all-count.auto.numbers))));
      room = c.if-findings-needed.false;
    }

pub returns : goal.returns
returns c =
    let p = c.args.pack.now in
    let n = all_counted _ p.ready c.find_all-count.ensures.count in
    let a = all_put (check (pack_of p.bytes.now)) c.args.findings.now c.deliver.new.findings c.find_all-count.result
    c.count_errors-errors.result n c.if-findings-needed.false c.deliver.ensures c.count_errors-errors.ensures in
    record { answer = a.answer; findings = a.out }
