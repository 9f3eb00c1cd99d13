use Rattle.std.proofs.Common.{ℕ, ◌≡◌, sym, ◌∙◌, ◌≤◌, ◌<◌, ◌+◌, ◌*◌, ◌^◌, suc, arith, pow-suc, get_or}
use Rattle.std.proofs.Math.Nat.{pow-le-pow_right}
use Rattle.std.proofs.lemmas.Grind.{common_steps}
use Rattle.std.specs.Prelude.{Some}
use Rattle.std.specs.Bool.{then_some}
use Rattle.numerals.specs.Numerals.{is_hex_digit, hex_digit}
use Rattle.numerals.proofs.hexadecimal.number.Goals as goal

-- k digits write a number below 16 ^ k, and 16 of them one of 64 bits
widened : (k v : ℕ) → v < 16 ^ k → k < 16 → 16 * v + 15 < 2 ^ 64
widened k v h l = let m : 16 ^ suc k ≤ 16 ^ 16 = pow-le-pow_right (omega arith) l in omega (arith, m, pow-suc 16 k)

below_16 : (x d : ℕ) → then_some (is_hex_digit x) (hex_digit x) ≡ Some d → d < 16
below_16 x d e = grind (arith, common_steps)

pub overflow_mul-value : goal.overflow_mul-value
overflow_mul-value c = omega (arith, widened c.loop-c.c-index c.loop-c.value)

pub overflow_add-value : goal.overflow_add-value
overflow_add-value c =
    let small = below_16 (get_or c.args.digits.now c.loop-c.c-index 0) c.in_ok-value.field-0 (sym c.hex_digit.ensures ∙ c.in_ok-value.was) in
    omega (arith, widened c.loop-c.c-index c.loop-c.value)
