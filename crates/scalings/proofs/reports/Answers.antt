use Rattle.scalings.specs.Report.{finding_is}
use Rattle.rules.specs.SearchLaws.{any_turn, any_hit}
use borrow.Author.Rules.{rules}
use mathlib.Core.Path.{◌≡◌, refl, sym, ◌∙◌}
use native.Mathlib.Omega.{arith}
use Rattle.scalings.proofs.reports.Goals as goal

pub loop-i-init : goal.loop-i-init
loop-i-init c = record { turns = search rules; none_yet = refl }

pub finding_is-requires : goal.finding_is-requires
finding_is-requires c =
    omega (arith, c.requires, c.loop-i-test.true)

pub returns-then-finding_is : goal.returns-then-finding_is
returns-then-finding_is c =
    sym (any_hit (finding_is c.args.rule c.args.cause c.args.findings.now) c.args.n c.loop-i.i
    (omega (arith, c.loop-i-test.true)) (sym c.finding_is.ensures ∙ c.if-finding_is.true))

pub loop-i-preserved : goal.loop-i-preserved
loop-i-preserved c =
    record {
      turns = omega (arith, c.loop-i-test.true);
      none_yet = any_turn (finding_is c.args.rule c.args.cause c.args.findings.now) c.loop-i.i
          ∙ (rw (c.loop-i.invariant.none_yet, sym c.finding_is.ensures ∙ c.if-finding_is.false));
    }

pub returns : goal.returns
returns c =
    let e : c.loop-i.i ≡ c.args.n = omega (arith, c.loop-i.invariant.turns, c.loop-i-test.false) in
    sym (rw (← e) c.loop-i.invariant.none_yet)
