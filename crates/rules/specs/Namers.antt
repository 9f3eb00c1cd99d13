-- For the code of R24 cause 2: the field that names an SPN among the first PGNs of the J1939 tree, and SPNs by a name that a field has.
use Rattle.std.specs.Bool.{then_some}
use Rattle.std.specs.Prelude.{ℕ, Bool, false, ◌&&◌, List, ◌≡◌, length, get_or, is_some, IfSome, Option, None, Some}
use Rattle.std.specs.Option.{option_map}
use Rattle.pack.specs.Notation.{◌≤ᵇ◌, ◌<ᵇ◌, ◌≐◌}
use Rattle.pack.specs.Value.{Bytes, Pgn, no_pgn, field_at}
use Rattle.pack.specs.Meaning.{pack_of}
use Rattle.pack.specs.Loaded.{tree_of, pgn_value}
use Rattle.rules.specs.declared.spn_names.Carrier.{Carrier}
use Rattle.rules.specs.Search.{max_below, least_below}
use Rattle.rules.specs.SpnNames.{spn_field}

-- m is the first field of a PGN that carries the SPN
pub record NamerIs (s : List ℕ) (spn : ℕ) (m : Carrier) : Type 0 where
  pub bytes : m.pgn.pack.bytes.now ≡ s
  pub tree : tree_of m.pgn ≡ 1
  pub field : spn_field (pgn_value m.pgn) spn ≡ Some m.field

-- r is the field that names an SPN, among the first n PGNs
pub record NamesAmong (s : List ℕ) (spn n : ℕ) (r : Option Carrier) : Type 0 where
  pub least : option_map (λ m. m.pgn.item) r
      ≡ least_below (λ i. (get_or (pack_of s).pgns_j1939 i no_pgn).pgn) (λ i. is_some (spn_field (get_or (pack_of s).pgns_j1939 i no_pgn) spn)) n
  pub is : IfSome r (NamerIs s spn)

-- the best so far is of a number not above
abbrev pub comes_after : Option Carrier → (number : ℕ) → Bool
comes_after None number = false
comes_after (Some m) number = m.pgn.view.pgn ≤ᵇ number

-- the largest SPN below b that a field carries under a name, be it the field that names the SPN or not
abbrev pub candidate_at : Bytes → (b : ℕ) → Bytes → Option ℕ → Option ℕ
candidate_at name b own None = None
candidate_at name b own (Some e) = then_some ((e <ᵇ b) && (own ≐ name)) e

unfoldable pub candidate_in : List Pgn → Bytes → (b i : ℕ) → Option ℕ
candidate_in pgns name b i =
    max_below (λ k. candidate_at name b (field_at (get_or pgns i no_pgn) k).name (field_at (get_or pgns i no_pgn) k).spn) (length (get_or pgns i no_pgn).fields)

unfoldable pub candidate : List Pgn → Bytes → (b : ℕ) → Option ℕ
candidate pgns name b = max_below (candidate_in pgns name b) (length pgns)
