use lib.Seq.{length-take-le}
use mathlib.Core.Path.{sym}
use Rattle.replay.proofs.walks.one_case.Goals as goal

pub slice_bounds-rest_of_case-end-2 : goal.slice_bounds-rest_of_case-end-2
slice_bounds-rest_of_case-end-2 c = sym (length-take-le _ _ c.count-n.ensures)
