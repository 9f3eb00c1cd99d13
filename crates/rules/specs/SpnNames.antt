-- R24 cause 2, `check_spn_names`: no two SPNs have one name, each named by the first field, in PGN order, that carries it.
use Rattle.std.specs.Bool.{then_some}
use Rattle.std.specs.Prelude.{is_some, ℕ, Bool, false, ◌&&◌, List, [], ◌∷◌, length, get_or, ◌==◌, if◌then◌else◌, Option, None, Some}
use Rattle.std.specs.Option.{unwrap_or}
use Rattle.pack.specs.Notation.{◌<ᵇ◌, ◌≤ᵇ◌, ◌≐◌, concat_below}
use Rattle.pack.specs.Value.{Bytes, Pgn, no_pgn, field_at}
use Rattle.rules.specs.declared.Finding.{Finding}
use Rattle.rules.specs.Findings.{pgn_error}
use Rattle.rules.specs.PlaceText.{pgn_loc}
use Rattle.rules.specs.Search.{first_below, max_below, min_below, least_below, sum_below, ranked}

abbrev pub is_number : Option ℕ → ℕ → Bool
is_number None s = false
is_number (Some n) s = n == s

-- the first field of a PGN that carries the SPN
unfoldable pub spn_field : Pgn → (s : ℕ) → Option ℕ
spn_field p s = first_below (λ k. is_number (field_at p k).spn s) (length p.fields)

-- an SPN, unless it is below b
abbrev pub spn_from : (b : ℕ) → Option ℕ → Option ℕ
spn_from b None = None
spn_from b (Some s) = then_some (b ≤ᵇ s) s

-- over the PGNs of the J1939 tree
module _ (pgns : List Pgn) where
  -- The PGN that names the SPN: of those that carry it the one of the least number, the first of equals (a stable sort by the number).
  unfoldable pub spn_pgn : (s : ℕ) → Option ℕ
  spn_pgn s = least_below (λ i. (get_or pgns i no_pgn).pgn) (λ i. is_some (spn_field (get_or pgns i no_pgn) s)) (length pgns)

  abbrev pub name_in : Pgn → Option ℕ → Bytes
  name_in p None = []
  name_in p (Some k) = (field_at p k).name

  abbrev pub name_by : (s : ℕ) → Option ℕ → Bytes
  name_by s None = []
  name_by s (Some i) = name_in (get_or pgns i no_pgn) (spn_field (get_or pgns i no_pgn) s)

  unfoldable pub spn_name : (s : ℕ) → Bytes
  spn_name s = name_by s (spn_pgn s)

  -- field k of PGN i is the one that names the SPN
  unfoldable pub names_spn : (s i k : ℕ) → Bool
  names_spn s i k = is_number (spn_pgn s) i && is_number (spn_field (get_or pgns i no_pgn) s) k

  -- `insert` answers the latest earlier SPN of the name: the largest one below s that has it
  abbrev pub earlier_if : (s i k : ℕ) → Option ℕ → Option ℕ
  earlier_if s i k None = None
  earlier_if s i k (Some e) = then_some ((e <ᵇ s) && ((field_at (get_or pgns i no_pgn) k).name ≐ spn_name s) && names_spn e i k) e

  unfoldable pub earlier_in : (s i : ℕ) → Option ℕ
  earlier_in s i = max_below (λ k. earlier_if s i k (field_at (get_or pgns i no_pgn) k).spn) (length (get_or pgns i no_pgn).fields)

  unfoldable pub earlier_spn : (s : ℕ) → Option ℕ
  earlier_spn s = max_below (earlier_in s) (length pgns)

  -- One finding at the earlier SPN's PGN and one at this one's; `dedup` compares the two places' texts.
  unfoldable pub clash_at : (earlier s i j : ℕ) → List Finding
  clash_at earlier s i j =
      if pgn_loc 1 (get_or pgns i no_pgn) ≐ pgn_loc 1 (get_or pgns j no_pgn) then pgn_error 24 2 1 i earlier s ∷ []
      else pgn_error 24 2 1 i earlier s ∷ pgn_error 24 2 1 j earlier s ∷ []

  unfoldable pub clash_with : (s : ℕ) → Option ℕ → List Finding
  clash_with s None = []
  clash_with s (Some earlier) = clash_at earlier s (unwrap_or (spn_pgn earlier) 0) (unwrap_or (spn_pgn s) 0)

  abbrev pub clash_of : Option ℕ → List Finding
  clash_of None = []
  clash_of (Some s) = clash_with s (earlier_spn s)

  -- SPNs in rising order, whatever their size: the least from b on that a field carries
  unfoldable pub least_spn_in : (b i : ℕ) → Option ℕ
  least_spn_in b i = min_below (λ k. spn_from b (field_at (get_or pgns i no_pgn) k).spn) (length (get_or pgns i no_pgn).fields)

  unfoldable pub least_spn : (b : ℕ) → Option ℕ
  least_spn b = min_below (least_spn_in b) (length pgns)

  -- There are no more SPNs than fields, so these ranks have every one (`spn_ranks` of proofs/SpnRanks).
  unfoldable pub check_spn_names : List Finding
  check_spn_names = concat_below (λ r. clash_of (ranked least_spn r)) (sum_below (λ i. length (get_or pgns i no_pgn).fields) (length pgns))
