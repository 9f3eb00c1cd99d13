-- R42, `check_spns`: spn only on J1939 fields, within 19 bits, and decoded alike by every field that carries the same SPN.
use Rattle.std.specs.Prelude.{is_some, ℕ, Bool, true, false, ◌&&◌, not, List, [], ◌∷◌, ◌++◌, length, get_or, ◌==◌, if◌then◌else◌, Option, None, Some}
use Rattle.pack.specs.Notation.{◌<ᵇ◌, ◌≐◌, concat_below}
use Rattle.pack.specs.Value.{Bytes, Field, Pgn, Pack, pgns_of, no_pgn, pgn_at, field_at}
use Rattle.rules.specs.declared.Finding.{Finding}
use Rattle.rules.specs.Findings.{pgn_error, report_if}
use Rattle.rules.specs.Floats.{float_eq}
use Rattle.rules.specs.Search.{first_below}
use Rattle.rules.specs.SpnNames.{spn_field}

-- "The largest SPN: J1939 carries them in 19 bits."
abbrev pub MAX_SPN : ℕ
MAX_SPN = 0x7ffff

-- 1 on a field of another tree
unfoldable pub spns_elsewhere : (t i : ℕ) → Pgn → List Finding
spns_elsewhere t i p = concat_below (λ k. report_if (is_some (field_at p k).spn) (pgn_error 42 1 t i k 0)) (length p.fields)

abbrev pub same_unit : Option Bytes → Option Bytes → Bool
same_unit None None = true
same_unit None (Some v) = false
same_unit (Some u) None = false
same_unit (Some u) (Some v) = u ≐ v

-- "SPN scaling is a width, two floats compared as floats, and a unit."
unfoldable pub same_scaling : Field → Field → Bool
same_scaling f g =
    (f.res_bits == g.res_bits)
    && float_eq f.res_resolution g.res_resolution
    && float_eq f.res_offset g.res_offset
    && same_unit f.res_unit g.res_unit

-- over the PGNs of the J1939 tree, in the list's order
module _ (pgns : List Pgn) where
  -- the PGN in which the SPN is first seen
  unfoldable pub first_seen : (s : ℕ) → Option ℕ
  first_seen s = first_below (λ j. is_some (spn_field (get_or pgns j no_pgn) s)) (length pgns)

  -- 3 unlike the field that carries the SPN first, field h of PGN j; the first is not compared with itself
  unfoldable pub unlike_field : (i k j : ℕ) → Option ℕ → List Finding
  unlike_field i k j None = []
  unlike_field i k j (Some h) =
      report_if
      (not ((j == i) && (h == k)) && not (same_scaling (field_at (get_or pgns j no_pgn) h) (field_at (get_or pgns i no_pgn) k)))
      (pgn_error 42 3 1 i k j)

  unfoldable pub unlike_first : (i k s : ℕ) → Option ℕ → List Finding
  unlike_first i k s None = []
  unlike_first i k s (Some j) = unlike_field i k j (spn_field (get_or pgns j no_pgn) s)

  -- 2 beyond 19 bits, and then not recorded
  unfoldable pub spn_at : (i k : ℕ) → Option ℕ → List Finding
  spn_at i k None = []
  spn_at i k (Some s) = if MAX_SPN <ᵇ s then pgn_error 42 2 1 i k 0 ∷ [] else unlike_first i k s (first_seen s)

  unfoldable pub check_scalings : (i : ℕ) → Pgn → List Finding
  check_scalings i p = concat_below (λ k. spn_at i k (field_at p k).spn) (length p.fields)

unfoldable pub check_spns : Pack → List Finding
check_spns P =
    concat_below (λ i. spns_elsewhere 0 i (pgn_at P 0 i)) (length (pgns_of P 0))
    ++ concat_below (λ i. spns_elsewhere 2 i (pgn_at P 2 i)) (length (pgns_of P 2))
    ++ concat_below (λ i. check_scalings (pgns_of P 1) i (pgn_at P 1 i)) (length (pgns_of P 1))
