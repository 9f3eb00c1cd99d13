-- R09, `check_special_values`: specialValues within 0 to 3, and below 2^bits.
use Rattle.std.specs.Prelude.{ℕ, ◌-◌, ◌^◌, min, ◌||◌, List, [], length, ◌==◌, if◌then◌else◌}
use Rattle.std.specs.Prelude.{Option, None, Some}
use Rattle.pack.specs.Notation.{◌<ᵇ◌, concat_below}
use Rattle.pack.specs.Value.{Pgn, field_at}
use Rattle.rules.specs.declared.Finding.{Finding}
use Rattle.rules.specs.Findings.{pgn_error, report_if}

unfoldable pub special_max : (bits : ℕ) → ℕ
special_max bits = if bits == 0 then 0 else 2 ^ min bits 63 - 1

unfoldable pub special_values_at : (t i k bits : ℕ) → Option ℕ → List Finding
special_values_at t i k bits None = []
special_values_at t i k bits (Some sv) = report_if ((3 <ᵇ sv) || (special_max bits <ᵇ sv)) (pgn_error 9 1 t i k 0)

unfoldable pub check_special_values : (t i : ℕ) → Pgn → List Finding
check_special_values t i p =
    concat_below (λ k. special_values_at t i k (field_at p k).res_bits (field_at p k).special_values) (length p.fields)
