use Rattle.scalings.specs.Report.{finding_is}
use Rattle.rules.specs.Search.{any_below}
use mathlib.Core.Bool.{false}
use mathlib.Core.Path.{◌≡◌}
use Prim.Native.Nat.{◌≤◌}
use Rattle.scalings.proofs.reports.Given as goal

abbrev pub invariant-loop-i : goal.invariant-loop-i
invariant-loop-i l = record { turns : l.i ≤ l.n; none_yet : any_below (finding_is l.rule l.cause l.findings) l.i ≡ false }
