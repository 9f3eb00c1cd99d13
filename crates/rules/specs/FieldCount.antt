-- R11, `check_field_count`: the C runtime's fieldList array holds 33 entries.
use Rattle.std.specs.Prelude.{ℕ, List, length}
use Rattle.pack.specs.Notation.{◌<ᵇ◌}
use Rattle.pack.specs.Value.{Pgn}
use Rattle.rules.specs.declared.Finding.{Finding}
use Rattle.rules.specs.Findings.{pgn_error, report_if}

unfoldable pub check_field_count : (t i : ℕ) → Pgn → List Finding
check_field_count t i p = report_if (33 <ᵇ length p.fields) (pgn_error 11 1 t i 0 0)
