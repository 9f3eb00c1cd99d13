-- R16, `check_min_length`: an authored minLength names a shorter payload that ends between two fields.
use Rattle.std.specs.Prelude.{ℕ, suc, ◌*◌, Bool, ◌||◌, not, List, [], ◌∷◌, length, ◌==◌, if◌then◌else◌}
use Rattle.std.specs.Prelude.{Option, None, Some}
use Rattle.pack.specs.Notation.{◌≤ᵇ◌}
use Rattle.pack.specs.Value.{Pgn, field_at}
use Rattle.rules.specs.declared.Finding.{Finding}
use Rattle.rules.specs.Findings.{pgn_error, report_if}
use Rattle.rules.specs.Search.{any_below, sum_below}

-- `lands_on_boundary`: the bits up to and with some field are minimum × 8
unfoldable pub lands_on_boundary : Pgn → ℕ → Bool
lands_on_boundary p least = any_below (λ k. sum_below (λ j. (field_at p j).res_bits) (suc k) == least * 8) (length p.fields)

-- 1 the PGN is variable, 2 not from 1 to below the full length, 3 not on a field boundary
unfoldable pub min_length_at : (t i : ℕ) → Pgn → Option ℕ → List Finding
min_length_at t i p None = []
min_length_at t i p (Some least) =
    if p.variable then pgn_error 16 1 t i 0 0 ∷ []
    else (if (least == 0) || (p.length ≤ᵇ least) then pgn_error 16 2 t i 0 0 ∷ []
    else report_if (not (lands_on_boundary p least)) (pgn_error 16 3 t i 0 0))

unfoldable pub check_min_length : (t i : ℕ) → Pgn → List Finding
check_min_length t i p = min_length_at t i p p.min_length
