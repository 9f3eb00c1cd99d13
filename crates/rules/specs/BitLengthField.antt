-- R15, `check_bit_length_field`: a variable-length BINARY field takes its length from an earlier integer field.
use Rattle.std.specs.Prelude.{is_some}
use Rattle.std.specs.Prelude.{ℕ, Bool, ◌&&◌, ◌||◌, not, List, [], ◌∷◌, length, ◌==◌, if◌then◌else◌}
use Rattle.std.specs.Prelude.{Option, None, Some}
use Rattle.pack.specs.Notation.{◌≤ᵇ◌, ◌≐◌, concat_below}
use Rattle.pack.specs.Value.{Bytes, Field, Pgn, field_at}
use Rattle.rules.specs.declared.Finding.{Finding}
use Rattle.rules.specs.Findings.{pgn_error, report_if}
use Rattle.rules.specs.Floats.{float_eq, ONE}
use Rattle.rules.specs.Model.{lookup_ref, target}
use Rattle.rules.specs.Texts.{BINARY}

unfoldable pub variable_binary : Field → Bool
variable_binary f = (f.res_bits == 0) && (f.type ≐ BINARY)

-- "not an integer bit-count field"
unfoldable pub not_bit_count : Field → Bool
not_bit_count f = is_some (lookup_ref f) || not (float_eq f.res_resolution ONE) || (f.res_bits == 0)

-- 3 no such field, 4 not before field k, 5 not an integer bit count
unfoldable pub bit_length_target_at : (t i : ℕ) → Pgn → (k : ℕ) → Option ℕ → List Finding
bit_length_target_at t i p k None = pgn_error 15 3 t i k 0 ∷ []
bit_length_target_at t i p k (Some j) =
    if k ≤ᵇ j then pgn_error 15 4 t i k j ∷ [] else report_if (not_bit_count (field_at p j)) (pgn_error 15 5 t i k j)

-- 1 a variable-length BINARY field without bitLengthField, 2 bitLengthField on another field
unfoldable pub bit_length_field_at : (t i : ℕ) → Pgn → (k : ℕ) → Option Bytes → List Finding
bit_length_field_at t i p k None = report_if (variable_binary (field_at p k)) (pgn_error 15 1 t i k 0)
bit_length_field_at t i p k (Some id) =
    if not (variable_binary (field_at p k)) then pgn_error 15 2 t i k 0 ∷ [] else bit_length_target_at t i p k (target p id)

unfoldable pub check_bit_length_field : (t i : ℕ) → Pgn → List Finding
check_bit_length_field t i p = concat_below (λ k. bit_length_field_at t i p k (field_at p k).bit_length_field) (length p.fields)
