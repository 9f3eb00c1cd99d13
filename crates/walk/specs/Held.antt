-- Which PGNs are held (document 01, "The walk", last paragraph).
use Rattle.std.specs.Prelude.{ℕ, suc, Bool, true, not, ◌&&◌, ◌||◌, length}
use Rattle.std.specs.Prelude.{Option, None, Some}
use Rattle.pack.specs.Value.{Pgn, Pack, field_at}
use Rattle.rules.specs.Search.{any_below, every_below}
use Rattle.rules.specs.Model.{target}
use Rattle.rules.specs.DynamicLength.{length_source}
use Rattle.walk.specs.Layout.{Layout, layout, set_at, holds, sets_hold, nested_in, clash}
use Rattle.walk.specs.Stops.{is_dynamic_value}

-- "nonempty sets share no order unless set 2 is nested"
unfoldable pub shares_held : Layout → Bool
shares_held L = every_below (λ k. every_below (λ j. not (clash L j k)) k) (length L.sets)

-- "a countField lies in no nonempty set, or in set 1 for a nested set 2", and then in set 1 only: the countField of set k, empty or not.
-- Other readings: HeldReadings.antt.
unfoldable pub count_field_held : Layout → ℕ → Option ℕ → Bool
count_field_held L k None = true
count_field_held L k (Some c) = every_below (λ j. not (holds L j c) || nested_in L j k) (length L.sets)

unfoldable pub count_fields_held : Layout → Bool
count_fields_held L = every_below (λ k. count_field_held L k (set_at L k).count_field) (length L.sets)

-- "a bitLengthField target's nonempty sets hold its user": the field i
abbrev pub target_held : Layout → Option ℕ → ℕ → Bool
target_held L None i = true
target_held L (Some t) i = sets_hold L (suc t) (suc i)

unfoldable pub bit_length_held : Pgn → ℕ → Bool
bit_length_held p i = elim (field_at p i).bit_length_field [ None ↦ true | Some id ↦ target_held (layout p) (target p id) i ]

-- "each DYNAMIC_FIELD_VALUE has a lower-order dynamicFieldLength or DYNAMIC_FIELD_KEY field whose nonempty sets hold it"
unfoldable pub dynamic_value_held : Pack → Pgn → ℕ → Bool
dynamic_value_held P p i =
    not (is_dynamic_value P (field_at p i))
    || any_below (λ j. length_source P.fieldtypes (field_at p j) && sets_hold (layout p) (suc j) (suc i)) i

-- the four conditions, the second as it is given
abbrev pub held_by : (Layout → Bool) → Pack → Pgn → Bool
held_by counts P p =
    shares_held (layout p)
    && counts (layout p)
    && every_below (λ i. bit_length_held p i) (length p.fields)
    && every_below (λ i. dynamic_value_held P p i) (length p.fields)

unfoldable pub held : Pack → Pgn → Bool
held P p = held_by count_fields_held P p
