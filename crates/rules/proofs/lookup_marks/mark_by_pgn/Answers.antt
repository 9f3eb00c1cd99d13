use Rattle.pack.specs.Loaded.{pgn_value}
use Rattle.rules.specs.LookupWiring.{referenced_by_pgn}
use Rattle.rules.specs.Search.{any_below}
use native.Mathlib.Omega.{arith}
use mathlib.Core.Path.{◌≡◌, ap}
use lib.ListN.{length}
use Rattle.rules.proofs.Marking.{marked_as}
use Rattle.rules.proofs.lookup_marks.mark_by_pgn.Invariants.{refers}
use Rattle.rules.proofs.lookup_marks.mark_by_pgn.Goals as goal

pub returns : goal.returns
unfolding referenced_by_pgn
returns c =
    let g = c.args.pgn.now in
    let q : c.loop-k.k ≡ length (pgn_value g).fields = omega (arith, g.is.fields, c.loop-k.auto.k-end, c.loop-k-test.false) in
    marked_as (λ n. any_below (refers g n) c.loop-k.k) (λ n. referenced_by_pgn n (pgn_value g)) (λ n. ap (any_below (refers g n)) q)
    c.loop-k.invariant
