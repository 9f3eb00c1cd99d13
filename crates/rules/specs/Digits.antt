-- Decimal digits.
use Rattle.std.specs.Prelude.{ℕ, zero, suc, ◌+◌, ◌-◌, ◌/◌, ◌%◌, [], ◌∷◌, ◌++◌, length, replicate, if◌then◌else◌}
use Rattle.pack.specs.Notation.{◌<ᵇ◌}
use Rattle.pack.specs.Value.{Bytes}

-- at most so many of a number's digits, the lowest last
abbrev pub digits_within : (room n : ℕ) → Bytes
digits_within zero n = []
digits_within (suc room) n = (if n <ᵇ 10 then [] else digits_within room (n / 10)) ++ ((48 + n % 10) ∷ [])

-- ten are enough for 32 bits
unfoldable pub digits : ℕ → Bytes
digits n = digits_within 10 n

-- the Rust's `{:06}`
unfoldable pub six_digits : ℕ → Bytes
six_digits n = replicate (6 - length (digits n)) 48 ++ digits n
