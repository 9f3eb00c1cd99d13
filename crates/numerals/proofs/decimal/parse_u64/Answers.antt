use Rattle.std.proofs.Common.{ℕ, ◌≡◌, ◌∙◌, List, [], ◌∷◌, refl, false, take, arith}
use Rattle.std.specs.Cmp.Lexicographic.{pointwise}
use Rattle.std.proofs.lemmas.Grind.{common_steps}
use Rattle.std.specs.Prelude.{nat_eq}
use Rattle.numerals.specs.Numerals.{parse_u64, parse_digits}
use Rattle.numerals.proofs.decimal.parse_u64.Goals as goal

no_plus : (xs : List ℕ) → pointwise nat_eq (take 1 xs) (43 ∷ []) ≡ false → parse_digits xs ≡ parse_u64 xs
unfolding parse_u64 parse_digits
no_plus [] e = refl
no_plus (x ∷ xs) e = grind (arith, common_steps)

pub returns-in-None : goal.returns-in-None
returns-in-None c = c.parse_digits-in-None.ensures ∙ no_plus c.args.b.now c.in-None.ensures.cases
