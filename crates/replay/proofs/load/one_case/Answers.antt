use native.Mathlib.Omega.{arith}
use mathlib.Core.Path.{sym}
use lib.Seq.{length-take-le}
use Rattle.replay.proofs.load.one_case.Goals as goal

pub slice_bounds-replay-end-2 : goal.slice_bounds-replay-end-2
slice_bounds-replay-end-2 c =
    sym (length-take-le c.count-n.result c.args.pack.now (omega (arith, c)))

pub slice_bounds-replay-end-4 : goal.slice_bounds-replay-end-4
slice_bounds-replay-end-4 c =
    sym (length-take-le c.count-m.result c.args.work.now (omega (arith, c)))
