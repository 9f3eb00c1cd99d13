-- R21, `check_unique_ids`: PGN ids are unique in a tree, field ids within a PGN.
use Rattle.std.specs.Prelude.{ℕ, List, [], ◌∷◌, ◌++◌, length, get_or, Option, None, Some}
use Rattle.pack.specs.Notation.{◌≐◌, concat_below}
use Rattle.pack.specs.Value.{Pgn, no_pgn, field_at}
use Rattle.rules.specs.declared.Finding.{Finding}
use Rattle.rules.specs.Findings.{pgn_error, report_if}
use Rattle.rules.specs.Search.{any_below, latest_below}

-- 1: `insert` answers the latest earlier holder of the id
unfoldable pub same_id_as : (t i : ℕ) → Option ℕ → List Finding
same_id_as t i None = []
same_id_as t i (Some j) = pgn_error 21 1 t i 0 j ∷ []

-- 2
unfoldable pub unique_field_ids : (t i : ℕ) → Pgn → List Finding
unique_field_ids t i p =
    concat_below (λ k. report_if (any_below (λ j. (field_at p j).id ≐ (field_at p k).id) k) (pgn_error 21 2 t i k 0)) (length p.fields)

unfoldable pub check_unique_ids : (t : ℕ) → List Pgn → List Finding
check_unique_ids t pgns =
    concat_below
    (λ i.
    same_id_as t i (latest_below (λ j. (get_or pgns j no_pgn).id ≐ (get_or pgns i no_pgn).id) i)
    ++ unique_field_ids t i (get_or pgns i no_pgn))
    (length pgns)
