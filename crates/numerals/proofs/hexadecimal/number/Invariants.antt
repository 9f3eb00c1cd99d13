use Rattle.numerals.specs.Numerals.{all_hex_digits, hexadecimal}
use Rattle.std.specs.Prelude.{Option, ℕ, List, ◌≡◌, ◌^◌, ◌<◌, drop}
use Rattle.std.specs.Bool.{then_some}
use Rattle.numerals.proofs.hexadecimal.number.Given as goal

-- what is parsed when digits that write v have been read and these are left
abbrev pub left : ℕ → List ℕ → Option ℕ
left v ds = then_some (all_hex_digits ds) (hexadecimal v ds)

abbrev pub invariant-loop-c : goal.invariant-loop-c
invariant-loop-c l = record { small : l.value < 16 ^ l.c-index; rest : left 0 l.digits ≡ left l.value (drop l.c-index l.digits) }
