-- R14, `check_field_type_overrides`: a field does not author the width or the resolution that its field type fixes.
use Rattle.std.specs.Prelude.{is_some}
use Rattle.std.specs.Prelude.{ℕ, ◌&&◌, not, List, ◌++◌, length, ◌==◌}
use Rattle.pack.specs.Notation.{concat_below}
use Rattle.pack.specs.Value.{FieldType, Field, Pgn, field_at}
use Rattle.rules.specs.declared.Finding.{Finding}
use Rattle.rules.specs.Findings.{pgn_error, report_if}
use Rattle.rules.specs.Floats.{float_eq, ZERO}
use Rattle.rules.specs.Model.{fieldtype_of}

-- 1 the width, 2 the resolution
unfoldable pub overrides_at : (t i k : ℕ) → Field → FieldType → List Finding
overrides_at t i k f ft =
    report_if (f.bits_given && not (ft.size == 0)) (pgn_error 14 1 t i k 0)
    ++ report_if (is_some f.resolution && not (float_eq ft.resolution ZERO)) (pgn_error 14 2 t i k 0)

unfoldable pub check_field_type_overrides : List FieldType → (t i : ℕ) → Pgn → List Finding
check_field_type_overrides fts t i p = concat_below (λ k. overrides_at t i k (field_at p k) (fieldtype_of fts (field_at p k))) (length p.fields)
