use Prim.Native.Nat.{ℕ, ◌-◌, ◌/◌, ◌^◌, ◌≤◌}
use native.Mathlib.Omega.{arith}
use mathlib.Core.Path.{◌≡◌, refl}
use borrow.Author.Tests.{le-leb, eqb-true}
use Rattle.std.specs.Prelude.{◌==◌}
use Rattle.walk.specs.Passes.{unavailable}
use Rattle.walk.proofs.Tests.{every_e}
use Rattle.walk.proofs.counts.unavailable.Goals as goal

-- all ones of 64 bits, shifted to so many
shifted : (bits : ℕ) → bits ≤ 64 → 18446744073709551615 / 2 ^ (64 - bits) ≡ 2 ^ bits - 1
shifted bits high = eqb-true _ _ (every_e (λ b. 18446744073709551615 / 2 ^ (64 - b) == 2 ^ b - 1) 65 refl bits (omega arith))

all_ones : (bits reading : ℕ) → 2 ≤ bits → bits ≤ 64 → (reading == 18446744073709551615 / 2 ^ (64 - bits)) ≡ unavailable bits reading
all_ones bits reading low high = rw (le-leb 2 bits low, le-leb bits 64 high, shifted bits high)

pub returns : goal.returns
returns c = all_ones c.args.bits c.args.reading (omega (arith, c)) (omega (arith, c))
