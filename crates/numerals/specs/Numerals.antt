-- The number that a text writes: in decimal, and in hexadecimal after 0x.
use Rattle.std.specs.Prelude.{ℕ, ◌+◌, ◌-◌, ◌*◌, ◌^◌, Bool, true, ◌&&◌, ◌||◌, [], ◌∷◌, length, ◌==◌, if◌then◌else◌}
use Rattle.std.specs.Prelude.{Option, None}
use Rattle.std.specs.Bool.{then_some}
use Rattle.pack.specs.Value.{Bytes}
use Rattle.pack.specs.Notation.{◌<ᵇ◌, ◌≤ᵇ◌}

-- "first parses a u64: digits, one leading + allowed"
abbrev pub is_digit : ℕ → Bool
is_digit b = (48 ≤ᵇ b) && (b ≤ᵇ 57)

abbrev pub all_digits : Bytes → Bool
all_digits [] = true
all_digits (b ∷ bs) = is_digit b && all_digits bs

-- the number that digits write, after v
abbrev pub decimal : ℕ → Bytes → ℕ
decimal v [] = v
decimal v (b ∷ bs) = decimal (10 * v + (b - 48)) bs

unfoldable pub parse_digits : Bytes → Option ℕ
parse_digits [] = None
parse_digits (b ∷ bs) = then_some (all_digits (b ∷ bs) && (decimal 0 (b ∷ bs) <ᵇ 2 ^ 64)) (decimal 0 (b ∷ bs))

unfoldable pub parse_u64 : Bytes → Option ℕ
parse_u64 [] = None
parse_u64 (b ∷ bs) = if b == 43 then parse_digits bs else parse_digits (b ∷ bs)

-- a hexadecimal digit: 0 to 9, A to F, a to f; its value
abbrev pub is_hex_digit : ℕ → Bool
is_hex_digit b = is_digit b || ((65 ≤ᵇ b) && (b ≤ᵇ 70)) || ((97 ≤ᵇ b) && (b ≤ᵇ 102))

abbrev pub hex_digit : ℕ → ℕ
hex_digit b = if b ≤ᵇ 57 then b - 48 else (if b ≤ᵇ 70 then b - 55 else b - 87)

abbrev pub all_hex_digits : Bytes → Bool
all_hex_digits [] = true
all_hex_digits (b ∷ bs) = is_hex_digit b && all_hex_digits bs

-- the number that hexadecimal digits write, after v
abbrev pub hexadecimal : ℕ → Bytes → ℕ
hexadecimal v [] = v
hexadecimal v (b ∷ bs) = hexadecimal (16 * v + hex_digit b) bs

-- 0x or 0X
abbrev pub is_hex_prefix : ℕ → ℕ → Bool
is_hex_prefix z x = (z == 48) && ((x == 120) || (x == 88))

-- "a text of 0x or 0X and 1 to 16 hexadecimal digits now resolves to that number"
unfoldable pub parse_hex : Bytes → Option ℕ
parse_hex [] = None
parse_hex (z ∷ []) = None
parse_hex (z ∷ x ∷ ds) = then_some (is_hex_prefix z x && ((1 ≤ᵇ length ds) && (length ds ≤ᵇ 16)) && all_hex_digits ds) (hexadecimal 0 ds)
