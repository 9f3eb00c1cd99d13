use Rattle.std.proofs.Common.{ℕ, suc, ◌≡◌, ◌∙◌, sym, ◌≤◌, ◌+◌, ◌-◌, ◌*◌, ◌^◌}
use Rattle.std.proofs.Common.{List, [], ◌∷◌, get_or, drop, drop-cons, arith}
use Rattle.std.proofs.lemmas.Bool.{le-ltb}
use Rattle.std.proofs.lemmas.Grind.{common_steps}
use Rattle.std.specs.Prelude.{None, Some}
use Rattle.std.specs.Bool.{then_some}
use Rattle.numerals.specs.Numerals.{is_digit, all_digits, decimal}
use Rattle.numerals.proofs.Tests.{and_false}
use Rattle.numerals.proofs.decimal.parse_digits.Invariants.{left}
use Rattle.numerals.proofs.decimal.parse_digits.Goals as goal

decimal_grows : (v : ℕ) (xs : List ℕ) → v ≤ decimal v xs
decimal_grows v [] = omega arith
decimal_grows v (x ∷ xs) = omega (arith, decimal_grows (10 * v + (x - 48)) xs)

too_large : (v x : ℕ) (xs : List ℕ) → 2 ^ 64 ≤ 10 * v + (x - 48) → left v (x ∷ xs) ≡ None
too_large v x xs h =
    let e = le-ltb (decimal (10 * v + (x - 48)) xs) (2 ^ 64) (omega (arith, decimal_grows (10 * v + (x - 48)) xs)) in
    rw (e, and_false (all_digits (x ∷ xs)))

its_value : (x d : ℕ) → then_some (is_digit x) (x - 48) ≡ Some d → x - 48 ≡ d
its_value x d e = grind (arith, common_steps)

pub returns-in_err-checked_mul : goal.returns-in_err-checked_mul
returns-in_err-checked_mul c =
    let b = c.args.digits.now in
    let large = too_large c.loop-c.value (get_or b c.loop-c.c-index 0) (drop (suc c.loop-c.c-index) b) (omega (arith, c.in_err-checked_mul.ensures)) in
    c.from_residual-in_err-checked_mul.ensures ∙ sym (c.loop-c.invariant.rest ∙ rw (drop-cons b c.loop-c.c-index 0 c.loop-c-test.true) large)

pub returns-in_err-value : goal.returns-in_err-value
returns-in_err-value c =
    let b = c.args.digits.now in
    let digit = its_value (get_or b c.loop-c.c-index 0) c.in_ok-digit.digit (sym c.digit.ensures ∙ c.in_ok-digit.was) in
    let large = too_large c.loop-c.value (get_or b c.loop-c.c-index 0) (drop (suc c.loop-c.c-index) b)
    (omega (arith, digit, c.in_ok-checked_mul.ensures, c.in_err-value.ensures)) in
    c.from_residual-in_err-value.ensures ∙ sym (c.loop-c.invariant.rest ∙ rw (drop-cons b c.loop-c.c-index 0 c.loop-c-test.true) large)
