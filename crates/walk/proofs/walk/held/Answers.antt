use Rattle.pack.proofs.Accepted.{load_law, index_law}
use Rattle.std.proofs.lemmas.Result.{err_from_is_err_and}
use Rattle.walk.proofs.WalkCalls.{held_refused, held_absent, held_answers, held_promised}
use lib.ListN.{length}
use mathlib.Core.Path.{◌≡◌, sym, ◌∙◌}
use Rattle.walk.proofs.walk.held.Goals as goal

pub invariant_of-pack : goal.invariant_of-pack
invariant_of-pack c =
    let l = load_law c.args.pack.now c.args.work.now c.in_ok-index.index (sym c.load.ensures.answer ∙ c.in_ok-index.was) in
    record { ready = rw c.load.ensures.work l.0; indexed = rw l.1 (index_law c.args.pack.now) }

pub returns-in_err-index : goal.returns-in_err-index
returns-in_err-index c =
    let q = c.in_err-index.field-0.0 in
    let y = err_from_is_err_and {Q = λ y. y ≡ q} c.from_residual.result c.from_residual.ensures.1 in
    let e = sym c.load.ensures.answer ∙ c.in_err-index.was in
    let a = held_refused c.args.pack.now (length c.args.work.now) c.args.tree c.args.pgn q e in
    rw (y.1, y.2) (held_promised _ _ _ _ _ _ a c.load.ensures.work)

pub returns-in_err-pgn : goal.returns-in_err-pgn
returns-in_err-pgn c =
    let q = c.in_err-pgn.field-0.0 in
    let y = err_from_is_err_and {Q = λ y. y ≡ q} c.from_residual-in_err-pgn.result c.from_residual-in_err-pgn.ensures.1 in
    let e = sym c.load.ensures.answer ∙ c.in_ok-index.was in
    let n = rw c.in_err-pgn.was at c.find_pgn.ensures in
    let a = held_absent c.args.pack.now (length c.args.work.now) c.args.tree c.args.pgn c.in_ok-index.index e c.load.new.work q n in
    rw (y.1, y.2) (held_promised _ _ _ _ _ _ a c.load.ensures.work)

pub returns : goal.returns
returns c =
    let e = sym c.load.ensures.answer ∙ c.in_ok-index.was in
    let n = rw c.in_ok-pgn.was at c.find_pgn.ensures in
    let h = rw c.found_pgn.ensures at c.held_at.ensures in
    let a = held_answers c.args.pack.now (length c.args.work.now) c.args.tree c.args.pgn c.in_ok-index.index e c.load.new.work c.in_ok-pgn.pgn n
    c.held_at.result h in
    held_promised _ _ _ _ _ _ a c.load.ensures.work
