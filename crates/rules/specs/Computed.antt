-- `check` with everything under it open, so that examples compute.
use Rattle.std.specs.Prelude.{List}
use Rattle.std.specs.Float.Ieee.{of_bits, eq}
use Rattle.pack.specs.Value.{Pack}
use Rattle.numerals.specs.Numerals.{parse_digits, parse_u64, parse_hex}
use Rattle.rules.specs.declared.Finding.{Finding}
use Rattle.rules.specs.Model.{value_bits, find_lookup, target, pairs, fieldtypes, value_named, resolve_in, resolve_name, resolve_text, resolve_match}
use Rattle.rules.specs.Floats.{float_eq}
use Rattle.rules.specs.Digits.{digits, six_digits}
use Rattle.rules.specs.PlaceText.{pgn_loc, group_loc, lookup_loc, has_number, place_text}
use Rattle.rules.specs.PgnRange.{find_range, quick_range, found_range, check_pgn_range}
use Rattle.rules.specs.FrameLength.{check_frame_length}
use Rattle.rules.specs.Repeating.{set_bounds, set_count_field, set_nesting, check_set, check_repeating}
use Rattle.rules.specs.DynamicLength.{length_source, have_length_source, dynamic_length_at, check_dynamic_length}
use Rattle.rules.specs.Proprietary.{is_manufacturer_pgn, company_fields, check_proprietary}
use Rattle.rules.specs.LookupWiring.{beyond_width, unreachable, lookup_width_at, lookup_found_at, lookup_ref_at, check_lookup_refs, is_fieldtype}
use Rattle.rules.specs.LookupWiring.{nested_lookup_at, fieldtype_entry_at, check_nested_refs, referenced_by_pgn, referenced_by_tree, referenced_by_lookup}
use Rattle.rules.specs.LookupWiring.{referenced, check_lookup_wiring}
use Rattle.rules.specs.SpecialValues.{special_max, special_values_at, check_special_values}
use Rattle.rules.specs.FieldCount.{check_field_count}
use Rattle.rules.specs.ReservedIds.{numbered, reserved_id_at, check_reserved_ids}
use Rattle.rules.specs.MatchValues.{resolved_at, match_value_at, check_match_values}
use Rattle.rules.specs.FieldTypeOverrides.{overrides_at, check_field_type_overrides}
use Rattle.rules.specs.BitLengthField.{variable_binary, not_bit_count, bit_length_target_at, bit_length_field_at, check_bit_length_field}
use Rattle.rules.specs.MinLength.{lands_on_boundary, min_length_at, check_min_length}
use Rattle.rules.specs.Variants.{has_match, match_key_at, match_key, duplicates, in_group, duplicate_of, variant_at, matchless, group_findings}
use Rattle.rules.specs.Variants.{least_group, check_variants}
use Rattle.rules.specs.UniqueIds.{same_id_as, unique_field_ids, check_unique_ids}
use Rattle.rules.specs.Fieldtypes.{fieldtype_at, check_fieldtypes}
use Rattle.rules.specs.LookupNames.{same_name, same_name_as, lookup_names_of, check_lookup_names}
use Rattle.rules.specs.SpnNames.{spn_field, spn_pgn, spn_name, names_spn, earlier_in, earlier_spn, clash_at, clash_with, least_spn_in, least_spn}
use Rattle.rules.specs.SpnNames.{check_spn_names}
use Rattle.rules.specs.Spns.{spns_elsewhere, same_scaling, first_seen, unlike_field, unlike_first, spn_at, check_scalings, check_spns}
use Rattle.rules.specs.Continues.{set_of, integer, not_raw, continued_by, continued_at, continued_found_at, continues_at, check_continues}
use Rattle.rules.specs.TrailingZero.{fixed, unsigned_integer, trailing_zero_target_at, trailing_zero_at, check_trailing_zero_is_digit}
use Rattle.rules.specs.Check.{check_pgn, check_tree, check_tree_continues, check}

unfoldable pub computed : Pack → List Finding
unfolding of_bits eq value_bits find_lookup target pairs fieldtypes parse_digits parse_u64 parse_hex value_named resolve_in resolve_name resolve_text
    resolve_match float_eq digits six_digits pgn_loc group_loc lookup_loc has_number place_text find_range quick_range found_range check_pgn_range
    check_frame_length set_bounds set_count_field set_nesting check_set check_repeating length_source have_length_source dynamic_length_at
    check_dynamic_length is_manufacturer_pgn company_fields check_proprietary beyond_width unreachable lookup_width_at lookup_found_at lookup_ref_at
    check_lookup_refs is_fieldtype nested_lookup_at fieldtype_entry_at check_nested_refs referenced_by_pgn referenced_by_tree referenced_by_lookup
    referenced check_lookup_wiring special_max special_values_at check_special_values check_field_count numbered reserved_id_at check_reserved_ids
    resolved_at match_value_at check_match_values overrides_at check_field_type_overrides variable_binary not_bit_count bit_length_target_at
    bit_length_field_at check_bit_length_field lands_on_boundary min_length_at check_min_length has_match match_key_at match_key duplicates in_group
    duplicate_of variant_at matchless group_findings least_group check_variants same_id_as unique_field_ids check_unique_ids fieldtype_at
    check_fieldtypes same_name same_name_as lookup_names_of check_lookup_names spn_field spn_pgn spn_name names_spn earlier_in earlier_spn clash_at
    clash_with least_spn_in least_spn check_spn_names spns_elsewhere same_scaling first_seen unlike_field unlike_first spn_at check_scalings
    check_spns set_of integer not_raw continued_by continued_at continued_found_at continues_at check_continues fixed unsigned_integer
    trailing_zero_target_at trailing_zero_at check_trailing_zero_is_digit check_pgn check_tree check_tree_continues check
computed P = check P
