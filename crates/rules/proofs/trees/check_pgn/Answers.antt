use Rattle.rules.specs.Check.{check_pgn}
use Rattle.rules.proofs.Emits.{emitted_append}
use Rattle.rules.proofs.trees.check_pgn.Goals as goal

pub returns : goal.returns
unfolding check_pgn
returns c =
    emitted_append (emitted_append (emitted_append (emitted_append
    (emitted_append (emitted_append (emitted_append (emitted_append
    (emitted_append (emitted_append
    (emitted_append (emitted_append c.check_pgn_range.ensures c.check_frame_length.ensures) c.check_repeating.ensures)
    c.check_dynamic_length.ensures) c.check_proprietary.ensures) c.check_special_values.ensures) c.check_field_count.ensures)
    c.check_reserved_ids.ensures) c.check_match_values.ensures) c.check_field_type_overrides.ensures) c.check_bit_length_field.ensures)
    c.check_trailing_zero_is_digit.ensures) c.check_min_length.ensures
