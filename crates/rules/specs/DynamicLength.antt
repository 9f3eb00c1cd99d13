-- R06, `check_dynamic_length`: DYNAMIC_FIELD_VALUE needs an earlier length source; overhead only on length fields;
-- dynamicFieldLength only on DYNAMIC_FIELD_LENGTH fields.
use Rattle.std.specs.Prelude.{ℕ, suc, Bool, ◌&&◌, ◌||◌, not, List, ◌++◌, length}
use Rattle.pack.specs.Notation.{◌≐◌, concat_below}
use Rattle.pack.specs.Value.{FieldType, Field, Pgn, field_at}
use Rattle.rules.specs.declared.Finding.{Finding}
use Rattle.rules.specs.Findings.{pgn_error, report_if}
use Rattle.rules.specs.Model.{root_of}
use Rattle.rules.specs.Search.{any_below}
use Rattle.rules.specs.Texts.{DYNAMIC_FIELD_LENGTH, DYNAMIC_FIELD_KEY, DYNAMIC_FIELD_VALUE}

-- "dynamicFieldLength or DYNAMIC_FIELD_KEY"
unfoldable pub length_source : List FieldType → Field → Bool
length_source fts f = f.dynamic_field_length || (root_of fts f ≐ DYNAMIC_FIELD_KEY)

-- `have_length_source`, once field k has been looked at: a field can be its own source
unfoldable pub have_length_source : List FieldType → Pgn → ℕ → Bool
have_length_source fts p k = any_below (λ j. length_source fts (field_at p j)) (suc k)

-- field k, f: 1 dynamicFieldLength on another field, 2 overhead without it, 3 a value without a length source
unfoldable pub dynamic_length_at : List FieldType → (t i : ℕ) → Pgn → (k : ℕ) → Field → List Finding
dynamic_length_at fts t i p k f =
    report_if (f.dynamic_field_length && not (root_of fts f ≐ DYNAMIC_FIELD_LENGTH)) (pgn_error 6 1 t i k 0)
    ++ report_if (f.overhead && not f.dynamic_field_length) (pgn_error 6 2 t i k 0)
    ++ report_if ((root_of fts f ≐ DYNAMIC_FIELD_VALUE) && not (have_length_source fts p k)) (pgn_error 6 3 t i k 0)

unfoldable pub check_dynamic_length : List FieldType → (t i : ℕ) → Pgn → List Finding
check_dynamic_length fts t i p = concat_below (λ k. dynamic_length_at fts t i p k (field_at p k)) (length p.fields)
