-- R12, `check_reserved_ids`: Reserved and Spare fields have the id `reserved` or `spare`, with a number or without.
use Rattle.std.specs.Prelude.{ℕ, Bool, false, not, List, [], ◌∷◌, length, ◌==◌, if◌then◌else◌}
use Rattle.pack.specs.Notation.{◌≐◌, concat_below}
use Rattle.pack.specs.Value.{Bytes, Field, Pgn, field_at}
use Rattle.rules.specs.declared.Finding.{Finding}
use Rattle.rules.specs.Findings.{pgn_error, report_if}
use Rattle.numerals.specs.Numerals.{all_digits}
use Rattle.rules.specs.Texts.{bytes}

-- the id is the wanted text, followed by ASCII digits or nothing
unfoldable pub numbered : (want id : Bytes) → Bool
numbered [] id = all_digits id
numbered (w ∷ want) [] = false
numbered (w ∷ want) (b ∷ id) = if w == b then numbered want id else false

unfoldable pub reserved_id_at : (t i k : ℕ) → Field → List Finding
reserved_id_at t i k f =
    if f.name ≐ bytes "Reserved" then report_if (not (numbered (bytes "reserved") f.id)) (pgn_error 12 1 t i k 0)
    else (if f.name ≐ bytes "Spare" then report_if (not (numbered (bytes "spare") f.id)) (pgn_error 12 1 t i k 0)
    else [])

unfoldable pub check_reserved_ids : (t i : ℕ) → Pgn → List Finding
check_reserved_ids t i p = concat_below (λ k. reserved_id_at t i k (field_at p k)) (length p.fields)
