use Rattle.report.proofs.Fits.{written_fits}
use Rattle.rules.specs.PlaceCall.{placed}
use Rattle.pack.specs.declared.load.Refusal.{Refusal}
use Rattle.std.specs.Prelude.{Result, Ok}
use lib.Seq.{length-take-le}
use native.Mathlib.Omega.{arith}
use Prim.Native.Nat.{ℕ, ◌≤◌}
use mathlib.Core.Path.{◌≡◌, sym, ◌∙◌}
use mathlib.Core.List.{List}
use Rattle.report.proofs.write_finding.Goals as goal

-- A text that was written lies within the buffer.
within : (s : List ℕ) (m place tree item n n' : ℕ) (r : Result ℕ Refusal) (k : ℕ) → r ≡ placed s m place tree item n → n' ≡ n → r ≡ Ok k → k ≤ n'
within s m place tree item n n' r k e l w = omega (arith, written_fits s m place tree item n k (sym e ∙ w), l)

pub slice_bounds-write_all-end : goal.slice_bounds-write_all-end
slice_bounds-write_all-end g c =
    within _ _ _ _ _ _ _ _ _ c.place_text.ensures.answer c.place_text.auto.text c.in_ok-n.was

pub slice_bounds-write_all-end-2 : goal.slice_bounds-write_all-end-2
slice_bounds-write_all-end-2 g c =
    sym (length-take-le _ _ (within _ _ _ _ _ _ _ _ _ c.place_text.ensures.answer c.place_text.auto.text c.in_ok-n.was))
