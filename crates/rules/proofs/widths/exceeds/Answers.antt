use Rattle.std.specs.Prelude.{◌==◌}
use Rattle.pack.specs.Notation.{◌≤ᵇ◌}
use mathlib.Core.Bool.{not}
use lib.Pow.{pow_pos}
use native.Mathlib.Nat.{le-div_iff_mul-le, div-lt_iff_lt-mul}
use native.Mathlib.Decide.{dec_lt}
use Prim.Native.Nat.{ℕ, ◌/◌, ◌^◌, ◌≤◌, ◌<◌}
use native.Mathlib.Omega.{arith}
use mathlib.Core.Path.{◌≡◌}
use borrow.Author.Tests.{lt-ltb, le-ltb, le-leb, lt-leb, eq-eqb, ne_eqb}
use Rattle.rules.proofs.widths.exceeds.Goals as goal

shifted : (v p : ℕ) → 0 < p → not (v / p == 0) ≡ (p ≤ᵇ v)
shifted v p h = go (dec_lt v p)
  where
    go : Dec (v < p) → not (v / p == 0) ≡ (p ≤ᵇ v)
    go (yes l) = let d : v / p < 1 = (div-lt_iff_lt-mul h).1 (omega arith) in let z : v / p ≡ 0 = omega (arith, d) in rw (eq-eqb (v / p) 0 z, lt-leb p v l)
    go (no l) = let d : 1 ≤ v / p = (le-div_iff_mul-le h).1 (omega arith) in rw (ne_eqb (v / p) 0 (λ e. omega (arith, d)), le-leb p v (omega arith))

pub returns-then-width-lt64 : goal.returns-then-width-lt64
returns-then-width-lt64 c = rw (lt-ltb _ _ c.if-width-lt64.true) (shifted c.args.value (2 ^ c.args.width) (pow_pos c.args.width))

pub returns : goal.returns
returns c = rw (le-ltb c.args.width 64 c.if-width-lt64.false)
