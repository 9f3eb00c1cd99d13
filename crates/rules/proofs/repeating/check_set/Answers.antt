use Rattle.std.specs.Prelude.{Option, Some, if◌then◌else◌}
use Rattle.rules.specs.declared.Finding.{Finding}
use Rattle.rules.proofs.Emits.{emitted_none, emitted_append}
use Rattle.rules.specs.Repeating.{set_bounds, set_count_field, set_nesting, check_set}
use Rattle.pack.specs.Value.{Repeating}
use Rattle.pack.specs.Meaning.{opt_order, repeating_meaning, optional_repeating}
use Rattle.pack.specs.declared.pgn.RepeatingView.{RepeatingView}
use Prim.Native.Nat.{ℕ}
use mathlib.Core.Bool.{Bool, true, false}
use mathlib.Core.Path.{◌≡◌}
use mathlib.Core.List.{List, [], ◌++◌}
use borrow.Author.Tests.{ne_eqb}
use Rattle.rules.proofs.repeating.check_set.Goals as goal

filled : (t i part fields : ℕ) (outer : Option Repeating) (set : Option RepeatingView) (v : RepeatingView) → set ≡ Some v → (v.count ≡ 0 → ⊥)
    → (rest : List Finding) → (if v.nested then set_nesting t i part outer (repeating_meaning v) else []) ≡ rest
    → check_set t i part fields outer (optional_repeating set)
    ≡ set_bounds t i part fields (repeating_meaning v) ++ set_count_field t i part v.start.0 (opt_order v.counter) ++ rest
unfolding check_set
filled t i part fields outer set v e n rest d = rw (e, ne_eqb _ _ n, d)

chosen : (b : Bool) (fs : List Finding) → b ≡ true → (if b then fs else []) ≡ fs
chosen b fs e = rw e

left_out : (b : Bool) (fs : List Finding) → b ≡ false → (if b then fs else []) ≡ []
left_out b fs e = rw e

pub returns-then-set : goal.returns-then-set
returns-then-set c =
    rw (filled _ _ _ _ _ _ _ c.in-Some.is c.if-set-eq0.false _ (chosen _ _ c.if-set.true))
    (emitted_append (emitted_append c.set_bounds.ensures c.set_count_field.ensures) c.set_nesting.ensures)

pub returns-else-set : goal.returns-else-set
returns-else-set c =
    rw (filled _ _ _ _ _ _ _ c.in-Some.is c.if-set-eq0.false _ (left_out _ _ c.if-set.false))
    (emitted_append (emitted_append c.set_bounds.ensures c.set_count_field.ensures) (emitted_none _))
