-- Ticket 6, "What a silent R42 says": "Show that R42 has no cause 3 exactly when every two different J1939 fields that R42 does not skip,
-- with one SPN of at most 524,287, have equal width, resolution, offset and unit as R42 takes them, floats compared as floats."
use Rattle.std.specs.Prelude.{ℕ, ◌≤◌, ◌<◌, Bool, true, false, ◌&&◌, ◌||◌, List, [], ◌∷◌, ◌↔◌, ◌≡◌, length, ◌==◌}
use Rattle.std.specs.Prelude.{Some}
use Rattle.pack.specs.Value.{Field, Pack, pgns_of, pgn_at, field_at}
use Rattle.rules.specs.declared.Finding.{Finding}
use Rattle.rules.specs.Check.{check}
use Rattle.rules.specs.Floats.{float_eq}
use Rattle.rules.specs.Spns.{check_spns}

-- "J1939 fields that R42 does not skip, with one SPN of at most 524,287": field k of PGN i of that tree carries the SPN. R42 skips a field
-- without one.
pub record Carries (P : Pack) (spn i k : ℕ) : Type 0 where
  pub pgn : i < length (pgns_of P 1)
  pub field : k < length (pgn_at P 1 i).fields
  pub carries : (field_at (pgn_at P 1 i) k).spn ≡ Some spn
  pub at_most : spn ≤ 524287

-- "every two different": at two places, of one PGN or of two, whatever stands there
abbrev pub Different : (i k j h : ℕ) → Type 0
Different i k j h = i ≡ j → k ≡ h → ⊥

-- "equal width, resolution, offset and unit as R42 takes them, floats compared as floats": a NaN is like nothing, itself included
pub record Alike (f g : Field) : Type 0 where
  pub width : f.res_bits ≡ g.res_bits
  pub resolution : float_eq f.res_resolution g.res_resolution ≡ true
  pub offset : float_eq f.res_offset g.res_offset ≡ true
  pub unit : f.res_unit ≡ g.res_unit

abbrev pub AllAlike : Pack → Type 0
AllAlike P =
    (spn i k j h : ℕ) → Carries P spn i k → Carries P spn j h → Different i k j h → Alike (field_at (pgn_at P 1 i) k) (field_at (pgn_at P 1 j) h)

-- its contrary: two that are not, fields k of PGN i and h of PGN j
pub record Unlike (P : Pack) : Type 0 where
  pub spn : ℕ
  pub i : ℕ
  pub k : ℕ
  pub j : ℕ
  pub h : ℕ
  pub here : Carries P spn i k
  pub there : Carries P spn j h
  pub different : Different i k j h
  pub unlike : Alike (field_at (pgn_at P 1 i) k) (field_at (pgn_at P 1 j) h) → ⊥

-- one of the findings has the rule and the cause
abbrev pub has_cause : (rule cause : ℕ) → List Finding → Bool
has_cause rule cause [] = false
has_cause rule cause (f ∷ fs) = (f.rule == rule) && (f.cause == cause) || has_cause rule cause fs

-- THE TICKET, of R42's own findings and of all that `check` reports. Proved: `silent_42` (proofs/Silent42.antt).
pub record Silent42 (P : Pack) : Type 0 where
  pub of_rule : has_cause 42 3 (check_spns P) ≡ false ↔ AllAlike P
  pub of_check : has_cause 42 3 (check P) ≡ false ↔ AllAlike P
