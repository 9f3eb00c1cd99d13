use Rattle.walk.specs.StopParts.{among}
use mathlib.Core.Bool.{false}
use mathlib.Core.Path.{◌≡◌}
use Rattle.walk.proofs.known.Memory.is_bad.Given as goal

abbrev pub invariant-loop-j : goal.invariant-loop-j
invariant-loop-j l = record { none_yet : among l.self.bad l.at l.j l.reading ≡ false }
