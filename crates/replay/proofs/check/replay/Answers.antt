use native.Mathlib.Omega.{arith}
use lib.Seq.{length-take-le}
use Prim.Native.Nat.{◌*◌}
use mathlib.Core.Path.{sym}
use Rattle.replay.proofs.check.replay.Goals as goal

pub slice_bounds-print_answer-end-2 : goal.slice_bounds-print_answer-end-2
slice_bounds-print_answer-end-2 c =
    sym (length-take-le (8 * c.least-n.result) c.sarwymp_check-refused.new.findings (omega (arith, c)))
