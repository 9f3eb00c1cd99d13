-- R20, `check_variants`: variants of one PGN number are told apart by their matches, and at most one has none.
use Rattle.std.specs.Bool.{then_some}
use Rattle.std.specs.Prelude.{is_some, ℕ, Bool, ◌&&◌, not, List, [], ◌∷◌, ◌++◌, length, get_or, ◌==◌, if◌then◌else◌, Option, None, Some}
use Rattle.pack.specs.Notation.{◌<ᵇ◌, ◌≤ᵇ◌, ◌≐◌, concat_below}
use Rattle.pack.specs.Value.{Bytes, Pgn, no_pgn, field_at}
use Rattle.rules.specs.declared.Finding.{Finding}
use Rattle.rules.specs.Digits.{digits}
use Rattle.rules.specs.Findings.{pgn_error, group_error, report_if}
use Rattle.rules.specs.Search.{any_below, latest_below, count_below, min_below, ranked}
use Rattle.rules.specs.Texts.{bytes}

unfoldable pub has_match : Pgn → ℕ → Bool
has_match p n = any_below (λ k. is_some (field_at p k).match) n

-- The key: index, `=` and match text of each field that has a match, joined by `,`.
-- It is one text, so matches that hold `,` and `=` can collide.
unfoldable pub match_key_at : Pgn → (k : ℕ) → Option Bytes → Bytes
match_key_at p k None = []
match_key_at p k (Some m) = (if has_match p k then bytes "," else []) ++ digits k ++ bytes "=" ++ m

unfoldable pub match_key : Pgn → Bytes
match_key p = concat_below (λ k. match_key_at p k (field_at p k).match) (length p.fields)

-- two variants, each with a match, that the match sets do not tell apart
unfoldable pub duplicates : Pgn → Pgn → Bool
duplicates p q = has_match p (length p.fields) && has_match q (length q.fields) && (match_key p ≐ match_key q)

module _ (t : ℕ) (pgns : List Pgn) where
  -- the PGNs of a number, fallback ones left out
  unfoldable pub in_group : (number i : ℕ) → Bool
  in_group number i = not (get_or pgns i no_pgn).fallback && ((get_or pgns i no_pgn).pgn == number)

  -- 1: `insert` answers the latest earlier holder of the key
  unfoldable pub duplicate_of : (i : ℕ) → Option ℕ → List Finding
  duplicate_of i None = []
  duplicate_of i (Some j) = pgn_error 20 1 t i 0 j ∷ []

  unfoldable pub variant_at : (number i : ℕ) → List Finding
  variant_at number i =
      if in_group number i
      then duplicate_of i (latest_below (λ j. in_group number j && duplicates (get_or pgns j no_pgn) (get_or pgns i no_pgn)) i)
      else []

  unfoldable pub matchless : (number : ℕ) → ℕ
  matchless number =
      count_below (λ i. in_group number i && not (has_match (get_or pgns i no_pgn) (length (get_or pgns i no_pgn).fields))) (length pgns)

  -- 2: more than one without a match. The Rust looks at groups of two or more only; the others have neither (`two_or_more` of proofs/VariantLaws).
  unfoldable pub group_findings : Option ℕ → List Finding
  group_findings None = []
  group_findings (Some number) =
      concat_below (variant_at number) (length pgns) ++ report_if (1 <ᵇ matchless number) (group_error 20 2 t number (matchless number))

  -- groups in rising number: the least number from b on that has a group
  unfoldable pub least_group : (b : ℕ) → Option ℕ
  least_group b = min_below (λ i. then_some (not (get_or pgns i no_pgn).fallback && (b ≤ᵇ (get_or pgns i no_pgn).pgn)) (get_or pgns i no_pgn).pgn) (length pgns)

  -- So many ranks have every group (`variants_ranks` of proofs/VariantLaws).
  unfoldable pub check_variants : List Finding
  check_variants = concat_below (λ r. group_findings (ranked least_group r)) (length pgns)
