-- Other readings than `held`'s of "a countField lies in no nonempty set, or in set 1 for a nested set 2". Demand 3 is claimed under the
-- widest; every other one here, and `held`, implies it of the PGNs of a pack (proofs/HeldWidest.antt).
use Rattle.std.specs.Prelude.{ℕ, Bool, true, not, ◌&&◌, ◌||◌, length, ◌==◌}
use Rattle.std.specs.Prelude.{Option, None, Some}
use Rattle.pack.specs.Notation.{◌<ᵇ◌, ◌≤ᵇ◌}
use Rattle.pack.specs.Value.{Pgn, Pack}
use Rattle.rules.specs.Search.{any_below, every_below}
use Rattle.walk.specs.Layout.{Layout, set_at, nonempty, holds, nested_in}
use Rattle.walk.specs.Held.{count_field_held, held_by}

-- "a countField": of every set, empty or not; or of nonempty sets only. What is asked of the one of set k is given.
abbrev pub of_every_set : (Layout → ℕ → Option ℕ → Bool) → Layout → Bool
of_every_set lies L = every_below (λ k. lies L k (set_at L k).count_field) (length L.sets)

abbrev pub of_nonempty_sets : (Layout → ℕ → Option ℕ → Bool) → Layout → Bool
of_nonempty_sets lies L = every_below (λ k. not (nonempty L k) || lies L k (set_at L k).count_field) (length L.sets)

-- "lies in no nonempty set"
abbrev pub in_no_set : Layout → ℕ → Bool
in_no_set L c = not (any_below (λ j. holds L j c) (length L.sets))

-- by the letter: "or in set 1 for a nested set 2", whatever else it lies in
abbrev pub count_field_letter : Layout → ℕ → Option ℕ → Bool
count_field_letter L k None = true
count_field_letter L k (Some c) = in_no_set L c || (k == 1) && ((set_at L 1).nested && holds L 0 c)

-- "for a nested set 2" as "where set 2 is nested": set 1's countField may lie there too
abbrev pub count_field_where_nested : Layout → ℕ → Option ℕ → Bool
count_field_where_nested L k None = true
count_field_where_nested L k (Some c) = in_no_set L c || (set_at L 1).nested && holds L 0 c

-- THE WIDEST, of nonempty sets only: a countField that is a field lies in no nonempty set but its own, unless set 2 is nested
abbrev pub field_in : Layout → (j c : ℕ) → Bool
field_in L j c = (0 <ᵇ c) && (c ≤ᵇ length L.fields) && holds L j c

abbrev pub may_hold : Layout → (j k : ℕ) → Bool
may_hold L j k = (j == k) || nested_in L j k || nested_in L k j

unfoldable pub count_field_widest : Layout → ℕ → Option ℕ → Bool
count_field_widest L k None = true
count_field_widest L k (Some c) = every_below (λ j. not (field_in L j c) || may_hold L j k) (length L.sets)

unfoldable pub widest_count_fields_held : Layout → Bool
widest_count_fields_held L = of_nonempty_sets count_field_widest L

-- What is held, by each. `held` asks of every set what `held_nonempty` asks of nonempty ones.
unfoldable pub held_nonempty : Pack → Pgn → Bool
held_nonempty P p = held_by (of_nonempty_sets count_field_held) P p

unfoldable pub held_letter : Pack → Pgn → Bool
held_letter P p = held_by (of_every_set count_field_letter) P p

unfoldable pub held_letter_nonempty : Pack → Pgn → Bool
held_letter_nonempty P p = held_by (of_nonempty_sets count_field_letter) P p

unfoldable pub held_where_nested : Pack → Pgn → Bool
held_where_nested P p = held_by (of_nonempty_sets count_field_where_nested) P p

unfoldable pub held_widest : Pack → Pgn → Bool
held_widest P p = held_by widest_count_fields_held P p
