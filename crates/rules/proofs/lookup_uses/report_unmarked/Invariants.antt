use Rattle.rules.specs.Emit.{Reporting}
use Rattle.rules.specs.Findings.{report_if, lookup_warning}
use Rattle.rules.specs.declared.Finding.{Finding}
use Prim.Native.Nat.{ℕ}
use mathlib.Core.Bool.{Bool, false, not}
use mathlib.Core.List.{List}
use lib.ListN.{get_or}
use Rattle.rules.proofs.lookup_uses.report_unmarked.Given as goal

-- the finding of lookup l
abbrev pub of_mark : List Bool → ℕ → List Finding
of_mark marks l = report_if (not (get_or marks l false)) (lookup_warning 22 1 l 0 0)

abbrev pub invariant-loop-l : goal.invariant-loop-l
invariant-loop-l l = Reporting l.initial.out (of_mark l.marks) l.count l.l l.out
