-- R13, `check_match_values`: a match resolves to a number that fits the field's width.
use Rattle.std.specs.Prelude.{is_some}
use Rattle.std.specs.Prelude.{ℕ, ◌-◌, ◌^◌, ◌&&◌, List, [], ◌∷◌, length, if◌then◌else◌}
use Rattle.std.specs.Prelude.{Option, None, Some}
use Rattle.pack.specs.Notation.{◌<ᵇ◌, concat_below}
use Rattle.pack.specs.Value.{Lookup, Pgn, field_at}
use Rattle.rules.specs.declared.Finding.{Finding}
use Rattle.rules.specs.Findings.{pgn_error, report_if}
use Rattle.rules.specs.Model.{resolve_match}

-- 1 the match does not resolve, 2 it exceeds the field's bits
unfoldable pub resolved_at : (t i k bits : ℕ) → Option ℕ → List Finding
resolved_at t i k bits None = pgn_error 13 1 t i k 0 ∷ []
resolved_at t i k bits (Some value) = report_if ((bits <ᵇ 64) && (2 ^ bits - 1 <ᵇ value)) (pgn_error 13 2 t i k 0)

unfoldable pub match_value_at : List Lookup → (t i : ℕ) → Pgn → (k : ℕ) → List Finding
match_value_at ls t i p k =
    let f = field_at p k in
    if is_some f.match then resolved_at t i k f.res_bits (resolve_match ls f) else []

unfoldable pub check_match_values : List Lookup → (t i : ℕ) → Pgn → List Finding
check_match_values ls t i p = concat_below (match_value_at ls t i p) (length p.fields)
