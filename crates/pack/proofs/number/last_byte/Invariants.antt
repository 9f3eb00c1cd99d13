use Rattle.pack.specs.Items.{run}
use lib.ListN.{drop}
use Prim.Native.Nat.{◌+◌}
use mathlib.Core.Path.{◌≡◌}
use Rattle.pack.proofs.number.last_byte.Given as goal

abbrev pub invariant-loop-i : goal.invariant-loop-i
invariant-loop-i l = l.at + run (drop l.at l.s) ≡ l.i + run (drop l.i l.s)
