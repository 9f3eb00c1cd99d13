-- For the code of R24 cause 2: whether two fields of the J1939 tree have one name and carry different SPNs. Where no two have, nothing is reported.
use Rattle.std.specs.Prelude.{ℕ, ◌+◌, Bool, false, not, ◌&&◌, List, length, get_or, ◌==◌, Option, None, Some}
use Rattle.pack.specs.Notation.{◌≐◌}
use Rattle.pack.specs.Value.{Bytes, Pgn, no_pgn, field_at}
use Rattle.rules.specs.Search.{any_below}

abbrev pub differs : Option ℕ → (spn : ℕ) → Bool
differs None spn = false
differs (Some e) spn = not (e == spn)

-- a field of its own name and SPN has that name, and carries another SPN than that one
abbrev pub other_spn : Bytes → (spn : ℕ) → Bytes → Option ℕ → Bool
other_spn name spn own None = false
other_spn name spn own (Some e) = (own ≐ name) && not (e == spn)

unfoldable pub other_in : Bytes → (spn : ℕ) → Pgn → Bool
other_in name spn p = any_below (λ h. other_spn name spn (field_at p h).name (field_at p h).spn) (length p.fields)

module _ (pgns : List Pgn) where
  -- one of the fields of the first n PGNs
  abbrev pub other_among : (n : ℕ) → Bytes → Option ℕ → Bool
  other_among n name None = false
  other_among n name (Some spn) = any_below (λ j. other_in name spn (get_or pgns j no_pgn)) n

  -- a field of PGN i and one up to there
  unfoldable pub clash_from : (i : ℕ) → Bool
  clash_from i = any_below (λ k. other_among (i + 1) (field_at (get_or pgns i no_pgn) k).name (field_at (get_or pgns i no_pgn) k).spn)
      (length (get_or pgns i no_pgn).fields)

  unfoldable pub may_clash : Bool
  may_clash = any_below clash_from (length pgns)
