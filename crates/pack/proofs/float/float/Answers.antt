use mathlib.Core.Bool.{true, false≢true}
use mathlib.Core.Path.{◌≡◌, refl, ◌∙◌, sym}
use borrow.Author.Tests.{lt-ltb, le-ltb}
use lib.Ieee.{Float, nan, inf, fin, binary64, of_bits, div, is_nan}
use lib.Ieee.Bits.{nan_bits_is, nan_bits_above}
use Rattle.pack.proofs.float.float.Goals as goal

nan_is : (x : Float) → is_nan x ≡ true → nan ≡ x
unfolding is_nan
nan_is nan e = refl
nan_is (inf s) e = absurd (false≢true e)
nan_is (fin s m k) e = absurd (false≢true e)

pub returns-then-pattern-gt-INFINITY : goal.returns-then-pattern-gt-INFINITY
unfolding div of_bits
returns-then-pattern-gt-INFINITY c =
    nan_is (of_bits binary64 c.args.pattern)
    (sym (nan_bits_is binary64 c.args.pattern) ∙ nan_bits_above binary64 c.args.pattern ∙ lt-ltb _ _ c.if-pattern-gt-INFINITY.true)

pub float_from_bits-result : goal.float_from_bits-result
float_from_bits-result c = rw (nan_bits_above binary64 c.args.pattern, le-ltb _ _ c.if-pattern-gt-INFINITY.false) tt
