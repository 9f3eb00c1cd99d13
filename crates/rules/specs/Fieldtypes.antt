-- R23, `check_fieldtypes`: every root field type can print.
use Rattle.std.specs.Prelude.{ℕ, ◌&&◌, not, List, length, get_or}
use Rattle.pack.specs.Notation.{concat_below}
use Rattle.pack.specs.Value.{FieldType, no_field_type}
use Rattle.rules.specs.declared.Finding.{Finding}
use Rattle.rules.specs.Findings.{fieldtype_error, report_if}

unfoldable pub fieldtype_at : (i : ℕ) → FieldType → List Finding
fieldtype_at i ft = report_if (not ft.base && not ft.print_function) (fieldtype_error 23 1 i)

unfoldable pub check_fieldtypes : List FieldType → List Finding
check_fieldtypes fts = concat_below (λ i. fieldtype_at i (get_or fts i no_field_type)) (length fts)
