-- R44, `check_trailing_zero_is_digit`: a DECIMAL's trailingZeroIsDigit names an earlier field of fixed position.
use Rattle.std.specs.Prelude.{ℕ, ◌+◌, Bool, true, ◌&&◌, ◌||◌, not, List, [], ◌∷◌, length, ◌==◌, if◌then◌else◌}
use Rattle.std.specs.Prelude.{Option, None, Some}
use Rattle.pack.specs.Notation.{◌<ᵇ◌, ◌≤ᵇ◌, ◌≐◌, concat_below}
use Rattle.pack.specs.Value.{Bytes, FieldType, Repeating, Field, Pgn, field_at, set_place}
use Rattle.rules.specs.declared.Finding.{Finding}
use Rattle.rules.specs.Findings.{pgn_error, report_if}
use Rattle.rules.specs.Floats.{float_eq, ZERO, ONE}
use Rattle.rules.specs.Model.{fieldtype_of, target}
use Rattle.rules.specs.Continues.{integer}
use Rattle.rules.specs.Search.{any_below, every_below}
use Rattle.rules.specs.Texts.{DECIMAL}

-- The set, if any, starts behind the order: an empty set counts here, also one that starts at 0.
abbrev pub starts_behind : Option Repeating → ℕ → Bool
starts_behind None o = true
starts_behind (Some r) o = o <ᵇ r.start

-- `fixed`: before field j "no variable-width field, no proprietary field that may be absent, and no repeating set": every given set is asked
unfoldable pub fixed : Pgn → ℕ → Bool
fixed p j =
    not (any_below (λ k. ((field_at p k).res_bits == 0) || (field_at p k).proprietary) j)
    && every_below (λ k. starts_behind (set_place p k) (j + 1)) (length p.sets)

-- "an unsigned, unscaled NUMBER or LOOKUP without an offset", of 1 to 63 bits
unfoldable pub unsigned_integer : List FieldType → Field → Bool
unsigned_integer fts f =
    integer fts f
    && not (fieldtype_of fts f).signed
    && float_eq f.res_resolution ONE
    && float_eq f.res_offset ZERO
    && not (f.res_bits == 0)
    && (f.res_bits ≤ᵇ 63)

-- 2 no such field, 3 not before field k at a fixed position, 4 not an unsigned integer
unfoldable pub trailing_zero_target_at : List FieldType → (t i : ℕ) → Pgn → (k : ℕ) → Option ℕ → List Finding
trailing_zero_target_at fts t i p k None = pgn_error 44 2 t i k 0 ∷ []
trailing_zero_target_at fts t i p k (Some j) =
    if (k ≤ᵇ j) || not (fixed p j) then pgn_error 44 3 t i k j ∷ []
    else report_if (not (unsigned_integer fts (field_at p j))) (pgn_error 44 4 t i k j)

-- 1 not a DECIMAL field
unfoldable pub trailing_zero_at : List FieldType → (t i : ℕ) → Pgn → (k : ℕ) → Option Bytes → List Finding
trailing_zero_at fts t i p k None = []
trailing_zero_at fts t i p k (Some id) =
    if not ((field_at p k).type ≐ DECIMAL) then pgn_error 44 1 t i k 0 ∷ [] else trailing_zero_target_at fts t i p k (target p id)

unfoldable pub check_trailing_zero_is_digit : List FieldType → (t i : ℕ) → Pgn → List Finding
check_trailing_zero_is_digit fts t i p = concat_below (λ k. trailing_zero_at fts t i p k (field_at p k).trailing_zero) (length p.fields)
