use Rattle.rules.specs.Findings.{report_if, lookup_warning}
use Rattle.rules.specs.declared.Finding.{Finding}
use Prim.Native.Nat.{ℕ}
use mathlib.Core.Bool.{Bool, false, not}
use mathlib.Core.List.{List}
use mathlib.Core.Path.{◌≡◌, sym, ap}
use lib.ListN.{get_or}
use Rattle.rules.proofs.Emits.{reporting_turn}
use Rattle.rules.proofs.lookup_uses.report_unmarked.Invariants.{of_mark}
use Rattle.rules.proofs.lookup_uses.report_unmarked.Goals as goal

said : (marks : List Bool) (l : ℕ) (F : Finding) → F ≡ lookup_warning 22 1 l 0 0 → of_mark marks l ≡ report_if (not (get_or marks l false)) F
said marks l F y = ap (λ (G : Finding). report_if (not (get_or marks l false)) G) (sym y)

pub loop-l-preserved : goal.loop-l-preserved
loop-l-preserved c =
    reporting_turn c.loop-l.invariant c.loop-l-test.true
    (rw (said c.args.marks.now c.loop-l.l c.lookup_warning.result c.lookup_warning.ensures) c.put_if.ensures)
