use lib.Seq.{length-take-le}
use mathlib.Core.Path.{sym}
use Rattle.replay.proofs.walks.rest_of_case.Goals as goal

pub slice_bounds-with_readings-end-2 : goal.slice_bounds-with_readings-end-2
slice_bounds-with_readings-end-2 c =
    sym (length-take-le _ _ c.count-m.ensures)

pub slice_bounds-with_readings-end-4 : goal.slice_bounds-with_readings-end-4
slice_bounds-with_readings-end-4 c =
    sym (length-take-le _ _ c.count-r.ensures)

pub slice_bounds-with_readings-end-6 : goal.slice_bounds-with_readings-end-6
slice_bounds-with_readings-end-6 c =
    sym (length-take-le _ _ c.count-k.ensures)
