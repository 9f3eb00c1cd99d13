-- `check`: every rule over a pack, in the order in which the Rust reports them.
use Rattle.std.specs.Prelude.{ℕ, List, ◌++◌, length}
use Rattle.pack.specs.Notation.{concat_below}
use Rattle.pack.specs.Value.{Pgn, Pack, pgns_of, pgn_at}
use Rattle.rules.specs.declared.Finding.{Finding}
use Rattle.rules.specs.Fieldtypes.{check_fieldtypes}
use Rattle.rules.specs.LookupWiring.{check_lookup_wiring}
use Rattle.rules.specs.LookupNames.{check_lookup_names}
use Rattle.rules.specs.PgnRange.{check_pgn_range}
use Rattle.rules.specs.FrameLength.{check_frame_length}
use Rattle.rules.specs.Repeating.{check_repeating}
use Rattle.rules.specs.DynamicLength.{check_dynamic_length}
use Rattle.rules.specs.Proprietary.{check_proprietary}
use Rattle.rules.specs.SpecialValues.{check_special_values}
use Rattle.rules.specs.FieldCount.{check_field_count}
use Rattle.rules.specs.ReservedIds.{check_reserved_ids}
use Rattle.rules.specs.MatchValues.{check_match_values}
use Rattle.rules.specs.FieldTypeOverrides.{check_field_type_overrides}
use Rattle.rules.specs.BitLengthField.{check_bit_length_field}
use Rattle.rules.specs.TrailingZero.{check_trailing_zero_is_digit}
use Rattle.rules.specs.MinLength.{check_min_length}
use Rattle.rules.specs.Variants.{check_variants}
use Rattle.rules.specs.UniqueIds.{check_unique_ids}
use Rattle.rules.specs.Spns.{check_spns}
use Rattle.rules.specs.Continues.{check_continues}

-- the rules that look at one PGN: R02, R04 to R07, R09, R11 to R15, R44, R16
unfoldable pub check_pgn : Pack → (t i : ℕ) → Pgn → List Finding
check_pgn P t i p =
    check_pgn_range t i p
    ++ check_frame_length t i p
    ++ check_repeating t i p
    ++ check_dynamic_length P.fieldtypes t i p
    ++ check_proprietary P.fieldtypes t i p
    ++ check_special_values t i p
    ++ check_field_count t i p
    ++ check_reserved_ids t i p
    ++ check_match_values P.lookups t i p
    ++ check_field_type_overrides P.fieldtypes t i p
    ++ check_bit_length_field t i p
    ++ check_trailing_zero_is_digit P.fieldtypes t i p
    ++ check_min_length t i p

-- and those that look at a tree: R20, R21
unfoldable pub check_tree : Pack → (t : ℕ) → List Finding
check_tree P t =
    concat_below (λ i. check_pgn P t i (pgn_at P t i)) (length (pgns_of P t))
    ++ check_variants t (pgns_of P t)
    ++ check_unique_ids t (pgns_of P t)

unfoldable pub check_tree_continues : Pack → (t : ℕ) → List Finding
check_tree_continues P t = concat_below (λ i. check_continues P.fieldtypes t i (pgn_at P t i)) (length (pgns_of P t))

-- R23; R08, R22; R24; the trees; R42; R43
unfoldable pub check : Pack → List Finding
check P =
    check_fieldtypes P.fieldtypes
    ++ check_lookup_wiring P
    ++ check_lookup_names P
    ++ concat_below (check_tree P) 3
    ++ check_spns P
    ++ concat_below (check_tree_continues P) 3
