-- R43, `check_continues`: a `continues:` field adds high bits to an earlier, plain integer field of the same record, at a fixed distance from it.
use Rattle.std.specs.Prelude.{is_some}
use Rattle.std.specs.Prelude.{ℕ, ◌+◌, Bool, false, ◌&&◌, ◌||◌, not, List, [], ◌∷◌, ◌++◌, length, ◌==◌, if◌then◌else◌}
use Rattle.std.specs.Prelude.{Option, None, Some}
use Rattle.pack.specs.Notation.{◌<ᵇ◌, ◌≤ᵇ◌, ◌≐◌, concat_below}
use Rattle.pack.specs.Value.{Bytes, FieldType, Repeating, Field, Pgn, field_at, set_place}
use Rattle.rules.specs.declared.Finding.{Finding}
use Rattle.rules.specs.Findings.{pgn_error, report_if}
use Rattle.rules.specs.Floats.{float_eq, ZERO, ONE}
use Rattle.rules.specs.Model.{is_text, fieldtype_of, root_of, value_bits, lookup_ref}
use Rattle.rules.specs.Search.{first_below, latest_below, count_below}
use Rattle.rules.specs.Texts.{NUMBER, LOOKUP}

-- the set holds the order; an empty one holds none
abbrev pub holds_order : Option Repeating → ℕ → Bool
holds_order None o = false
holds_order (Some r) o = (r.start ≤ᵇ o) && (o <ᵇ r.start + r.count)

-- the place of an index, from 1; 0 for none
abbrev pub place_number : Option ℕ → ℕ
place_number None = 0
place_number (Some j) = j + 1

-- `set_of` a field's index: the highest place whose set holds it, 0 for none. "Set 2 first: a set nested in set 1 lies inside it, and its
-- fields belong to the inner record."
unfoldable pub set_of : Pgn → ℕ → ℕ
set_of p k = place_number (latest_below (λ j. holds_order (set_place p j) (k + 1)) (length p.sets))

-- `integer`: NUMBER or LOOKUP
unfoldable pub integer : List FieldType → Field → Bool
integer fts f = (root_of fts f ≐ NUMBER) || (root_of fts f ≐ LOOKUP)

-- given, and not the float
abbrev pub differs_from : Option ℕ → ℕ → Bool
differs_from None c = false
differs_from (Some a) c = not (float_eq a c)

-- a continuing field "is raw bits": what it has of its own beside them
unfoldable pub not_raw : Field → Bool
not_raw f =
    differs_from f.resolution ONE
    || differs_from f.offset ZERO
    || f.unit_given
    || is_some (lookup_ref f)
    || is_some f.match
    || is_some f.spn

-- how many fields continue the field with this id
unfoldable pub continued_by : Pgn → Bytes → ℕ
continued_by p id = count_below (λ k. is_text (field_at p k).continues id) (length p.fields)

-- field k continues field j, whose id it names; `continuation` says whether the distance of j to it is fixed
-- 2 across a repeating-set boundary, 3 a field of no fixed width lies between, 4 more than one field continues it
abbrev pub continued_place : (t i : ℕ) → Pgn → (k : ℕ) → Bytes → (j : ℕ) → (continuation : Bool) → List Finding
continued_place t i p k id j continuation =
    if not (set_of p j == set_of p k) then pgn_error 43 2 t i k j ∷ []
    else (if not continuation then pgn_error 43 3 t i k j ∷ []
    else report_if (1 <ᵇ continued_by p id) (pgn_error 43 4 t i k j))

-- field k, f, continues field j, low
-- 5 it continues one itself, 6 not integers, 7 not raw bits, 8 a sign or an offset, 9 wider than 64 bits
unfoldable pub continued_at : List FieldType → (t i : ℕ) → Pgn → (k : ℕ) → Field → Bytes → (j : ℕ) → Field → List Finding
continued_at fts t i p k f id j low =
    continued_place t i p k id j (is_some low.continuation)
    ++ report_if (is_some low.continues) (pgn_error 43 5 t i k j)
    ++ report_if (not (integer fts low) || not (root_of fts f ≐ NUMBER)) (pgn_error 43 6 t i k j)
    ++ report_if (not_raw f) (pgn_error 43 7 t i k j)
    ++ report_if ((fieldtype_of fts low).signed || not (float_eq low.res_offset ZERO)) (pgn_error 43 8 t i k j)
    ++ report_if (64 <ᵇ value_bits low) (pgn_error 43 9 t i k j)

-- 1 not an earlier field
unfoldable pub continued_found_at : List FieldType → (t i : ℕ) → Pgn → (k : ℕ) → Bytes → Option ℕ → List Finding
continued_found_at fts t i p k id None = pgn_error 43 1 t i k 0 ∷ []
continued_found_at fts t i p k id (Some j) = continued_at fts t i p k (field_at p k) id j (field_at p j)

-- the first field with that id, sought among the earlier ones only
unfoldable pub continues_at : List FieldType → (t i : ℕ) → Pgn → (k : ℕ) → Option Bytes → List Finding
continues_at fts t i p k None = []
continues_at fts t i p k (Some id) = continued_found_at fts t i p k id (first_below (λ j. (field_at p j).id ≐ id) k)

unfoldable pub check_continues : List FieldType → (t i : ℕ) → Pgn → List Finding
check_continues fts t i p = concat_below (λ k. continues_at fts t i p k (field_at p k).continues) (length p.fields)
