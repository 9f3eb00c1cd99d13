-- Floats of the pack, compared as floats: a NaN differs from everything, -0 equals 0.
-- By the logic's own account of f64, since that is what Rattle's `==` means: a function that turns a pattern into an f64 promises
-- `of_bits`, which is `nan` for every NaN pattern, and comparing two such f64s is then `float_eq` of the patterns with no law in between.
use Rattle.std.specs.Prelude.{ℕ, Bool}
use Rattle.std.specs.Float.{binary64}
use Rattle.std.specs.Float.Ieee.{of_bits, eq}

unfoldable pub float_eq : ℕ → ℕ → Bool
float_eq a b = eq (of_bits binary64 a) (of_bits binary64 b)

-- 0.0 and 1.0
abbrev pub ZERO : ℕ
ZERO = 0

abbrev pub ONE : ℕ
ONE = 0x3ff0_0000_0000_0000
