use lib.ListN.{length, take}
use lib.Seq.{take-suc, take_all}
use Rattle.rules.proofs.DigitLaws.{from_highest, length_highest, highest_at, highest_are, lowest_are, long}
use Rattle.rules.proofs.TextOuts.{puts_append}
use Rattle.rules.specs.Digits.{digits, six_digits}
use Rattle.rules.specs.TextOut.{Puts}
use Rattle.rules.specs.declared.text_out.TextOut.{TextOut}
use borrow.Author.Rules.{rules}
use native.Mathlib.Nat.{pow-succ', pow-le-pow_right}
use native.Mathlib.Numerals.{add-one}
use native.Mathlib.Omega.{arith}
use Prim.Native.Nat.{ℕ, zero, suc, ◌+◌, ◌-◌, ◌*◌, ◌/◌, ◌%◌, ◌^◌, ◌≤◌, ◌<◌, max}
use mathlib.Core.List.{[], ◌∷◌}
use mathlib.Core.Path.{◌≡◌, refl, sym, ◌∙◌}
use Rattle.rules.proofs.text_out.TextOut.put_six_digits.Goals as goal

-- one digit more
turn : {o o' o'' : TextOut} (places n i d : ℕ) → i < places → d ≡ 48 + n / 10 ^ (places - 1 - i) % 10 → Puts o (take i (from_highest places n)) o'
    → Puts o' (d ∷ []) o'' → Puts o (take (i + 1) (from_highest places n)) o''
turn places n i d h e p q =
    let within : i < length (from_highest places n) = omega (arith, h, length_highest places n) in
    rw (add-one i, take-suc (from_highest places n) i 0 within, highest_at places n i h, ← e) (puts_append p q)

-- how many digits n has, by its logarithm
counted : (n k : ℕ) → k < 10 → 10 ^ k ≤ max n 1 → max n 1 < 10 * 10 ^ k → length (digits n) ≡ k + 1
unfolding digits
counted zero zero b p q = refl
counted zero (suc k) b p q =
    let ten : 10 ≤ 10 ^ suc k = pow-le-pow_right {n = 10} (omega arith) {i = 1} {j = suc k} (omega arith) in
    absurd (omega (arith, p, ten))
counted (suc n) k b p q =
    let e : max (suc n) 1 ≡ suc n = omega arith in
    long k (suc n) b (rw e at p) (rw (pow-succ' 10 k) (rw e at q)) ∙ sym (add-one k)

-- zeros up to six places
whole : (n k places : ℕ) → n < 4294967296 → length (digits n) ≡ k + 1 → places ≡ max (k + 1) 6 → from_highest places n ≡ six_digits n
unfolding six_digits
whole n k places l c e =
    let zeros : places - length (digits n) ≡ 6 - length (digits n) = omega arith in
    highest_are places n ∙ lowest_are places n l (omega (arith, c, e)) ∙ (rw zeros)

positive : (k : ℕ) → 0 < 10 ^ k
positive k = pow-le-pow_right {n = 10} (omega arith) {i = 0} {j = k} (omega arith)

pub nonzero_div-n : goal.nonzero_div-n
nonzero_div-n c = rw c.pow.ensures (positive _)

pub loop-i-preserved : goal.loop-i-preserved
loop-i-preserved c = turn c.max-places.result c.args.n c.loop-i.i _ c.loop-i-test.true (rw c.pow.ensures) c.loop-i.invariant c.put_byte.ensures

pub returns : goal.returns
returns c =
    let n = c.args.n in let places = c.max-places.result in
    let all = take_all c.loop-i.i (from_highest places n) (omega (arith, length_highest places n, c.loop-i-test.false)) in
    let some = counted n c.ilog10.result c.ilog10.ensures.bound (rw c.max.ensures at c.ilog10.ensures.power_le) (rw c.max.ensures at
    c.ilog10.ensures.next_power_gt) in
    rw (all, whole n c.ilog10.result places (search rules) some c.max-places.ensures) at c.loop-i.invariant
