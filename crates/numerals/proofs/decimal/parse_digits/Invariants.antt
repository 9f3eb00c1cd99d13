use Rattle.numerals.specs.Numerals.{all_digits, decimal, parse_digits}
use Rattle.pack.specs.Notation.{◌<ᵇ◌}
use Rattle.std.specs.Prelude.{Option, ℕ, List, ◌≡◌, ◌<◌, ◌^◌, ◌&&◌, drop}
use Rattle.std.specs.Bool.{then_some}
use Rattle.numerals.proofs.decimal.parse_digits.Given as goal

-- what is parsed when digits that write v have been read and these are left
abbrev pub left : ℕ → List ℕ → Option ℕ
left v ds = then_some (all_digits ds && (decimal v ds <ᵇ 2 ^ 64)) (decimal v ds)

abbrev pub invariant-loop-c : goal.invariant-loop-c
invariant-loop-c l = record { small : l.value < 2 ^ 64; rest : parse_digits l.digits ≡ left l.value (drop l.c-index l.digits) }
