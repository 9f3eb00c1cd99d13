use Rattle.pack.proofs.Accepted.{load_law, index_law}
use Rattle.rules.proofs.Reports.{not_loaded, is_loaded, promised}
use Rattle.std.proofs.lemmas.Result.{err_from_is_err_and}
use mathlib.Core.Path.{sym, ◌≡◌, ◌∙◌}
use Rattle.rules.proofs.check.check.Goals as goal

pub returns-in_err-index : goal.returns-in_err-index
returns-in_err-index c =
    let q = c.in_err-index.field-0.0 in
    let y = err_from_is_err_and {Q = λ y. y ≡ q} c.from_residual.result c.from_residual.ensures.1 in
    let a = not_loaded c.args.pack.now c.args.work.now c.args.findings.now q (sym c.load.ensures.answer ∙ c.in_err-index.was) in
    rw (y.1, y.2) (promised _ _ _ _ _ _ a c.load.ensures.work)

pub invariant_of-loaded : goal.invariant_of-loaded
invariant_of-loaded c =
    let pack = c.args.pack.now in
    let l = load_law pack c.args.work.now c.in_ok-index.index (sym c.load.ensures.answer ∙ c.in_ok-index.was) in
    record { ready = rw c.load.ensures.work l.0; indexed = rw l.1 (index_law pack) }

pub returns : goal.returns
returns c =
    let a = is_loaded c.args.pack.now c.args.work.now c.args.findings.now c.in_ok-index.index
    (sym c.load.ensures.answer ∙ c.in_ok-index.was) c.report.ensures.answer c.report.ensures.findings in
    promised _ _ _ _ _ _ a c.load.ensures.work
