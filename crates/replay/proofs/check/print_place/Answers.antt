use lib.Seq.{length-take-le}
use mathlib.Core.Path.{sym}
use Rattle.replay.proofs.check.print_place.Goals as goal

pub slice_bounds-words-end-2 : goal.slice_bounds-words-end-2
slice_bounds-words-end-2 c = sym (length-take-le _ _ c.least-n.ensures)
