-- Small walks, by computation: each end and each stop.
use Prim.Native.Nat.{ℕ, ◌-◌, ◌^◌}
use native.Mathlib.Omega.{arith}
use mathlib.Core.Path.{◌≡◌, refl}
use mathlib.Core.Bool.{Bool, true, false}
use mathlib.Core.List.{List, [], ◌∷◌, ◌++◌}
use Rattle.std.specs.Prelude.{Option, None, Some}
use lib.ListN.{length, replicate}
use Rattle.pack.specs.Notation.{tab}
use Rattle.pack.specs.Value.{Bytes, FieldType, Entry, Reference, Repeating, Field, Pgn, Pack}
use Rattle.rules.specs.Model.{target}
use Rattle.rules.specs.DynamicLength.{length_source}
use Rattle.rules.specs.Check.{check}
use Rattle.rules.specs.Computed.{computed}
use Rattle.rules.specs.Findings.{pgn_error, without_error}
use Rattle.rules.specs.Floats.{ONE}
use Rattle.rules.specs.Texts.{bytes, BINARY, NUMBER, DYNAMIC_FIELD_KEY, DYNAMIC_FIELD_VALUE}
use Rattle.rules.specs.Search.{every_below}
use Rattle.walk.specs.Layout.{Layout, sets_hold, share, nested_in, inside_previous, misplaced, clash, stop_1, layout}
use Rattle.walk.specs.Stops.{is_missing, lookup_missing, unfit, match_unfit, names_missing, entries_name_missing, lookup_names_missing}
use Rattle.walk.specs.Stops.{reference_names_missing, lacks, lacks_length, stop_at}
use Rattle.walk.specs.Passes.{unavailable, put, arrives, look, close, stand}
use Rattle.walk.specs.Visits.{visited, latest, is_current}
use Rattle.walk.specs.Walk.{End, whole, used_up, stop, Answer, arrive, settle, settled, onward, walk_on, walk_with, by_visits, walk}
use Rattle.walk.specs.Held.{shares_held, count_field_held, count_fields_held, bit_length_held, dynamic_value_held, held}
use Rattle.walk.specs.HeldReadings.{held_letter, held_widest, widest_count_fields_held, count_field_widest}
use Rattle.walk.specs.Guarantee.{Unstopped}
use Rattle.walk.proofs.NoStop.{guarantee}
use Rattle.walk.specs.declared.stops.Stop.TheVariants.{SetMisplaced, CounterNotCurrent, LookupMissing, MatchUnfit, EntryNamesMissing, LengthNotCurrent}
use Rattle.walk.specs.declared.stops.Stop.TheVariants.{ContinuedNotCurrent, NoLengthSource, TrailingNotCurrent}

-- A PACK of three field types and one lookup, and fields that ask for something
abbrev root : Bytes → FieldType
root name = record { name = name; base = false; print_function = true; signed = false; size = 0; resolution = 0; root_name = name }

abbrev entry : ℕ → Bytes → Option Bytes → Entry
entry value fieldtype nested = record { first = 0; value = value; name = bytes "e"; fieldtype = fieldtype; nested = nested }

abbrev P : Pack
P = record {
  fieldtypes = root NUMBER ∷ root DYNAMIC_FIELD_KEY ∷ root DYNAMIC_FIELD_VALUE ∷ [];
  lookups =
      record {
        name = bytes "L";
        kind = 3;
        bits = 8;
        entries = entry 1 NUMBER None ∷ entry 1 NUMBER (Some (bytes "L")) ∷ entry 2 (bytes "X") None ∷ entry 3 NUMBER (Some (bytes "Y")) ∷ [];
      } ∷ [];
  pgns = [];
  pgns_j1939 = [];
  pgns_quick = [];
}

abbrev reference : Option Bytes → Option Reference
reference None = None
reference (Some name) = Some (record { kind = 3; name = name })

abbrev field : (id type : Bytes) (bits ft : ℕ) (match lookup bit_length_field continues trailing_zero : Option Bytes) → Field
field id type bits ft match lookup bit_length_field continues trailing_zero =
    record {
      id = id;
      name = id;
      type = type;
      ft = ft;
      bits_given = false;
      unit_given = false;
      proprietary = false;
      allow_lookup_width_mismatch = false;
      dynamic_field_length = false;
      overhead = false;
      res_bits = bits;
      res_resolution = 0;
      res_offset = 0;
      res_unit = None;
      resolution = None;
      offset = None;
      spn = None;
      continues = continues;
      match = match;
      reference = reference lookup;
      special_values = None;
      bit_length_field = bit_length_field;
      trailing_zero = trailing_zero;
      continuation = None;
    }

abbrev a : Field
a = field (bytes "a") NUMBER 8 0 None None None None None

abbrev b : Field
b = field (bytes "b") NUMBER 8 0 None None None None None

abbrev c : Field
c = field (bytes "c") NUMBER 8 0 None None None None None

abbrev d : Field
d = field (bytes "d") NUMBER 8 0 None None None None None

abbrev e : Field
e = field (bytes "e") NUMBER 8 0 None None None None None

abbrev f : Field
f = field (bytes "f") NUMBER 8 0 None None None None None

-- the field z, which wants something
abbrev z_matches : Bytes → Field
z_matches m = field (bytes "z") NUMBER 8 0 (Some m) None None None None

abbrev z_looks_up : Bytes → Field
z_looks_up l = field (bytes "z") NUMBER 8 0 None (Some l) None None None

abbrev z_as_long_as : Bytes → Field
z_as_long_as id = field (bytes "z") NUMBER 8 0 None None (Some id) None None

abbrev z_binary : Field
z_binary = field (bytes "z") BINARY 0 0 None None (Some (bytes "a")) None None

abbrev z_continues : Bytes → Field
z_continues id = field (bytes "z") NUMBER 8 0 None None None (Some id) None

abbrev z_ends_by : Bytes → Field
z_ends_by id = field (bytes "z") NUMBER 8 0 None None None None (Some id)

abbrev key : Field
key = field (bytes "k") NUMBER 8 1 None None None None None

abbrev value : Field
value = field (bytes "v") NUMBER 8 2 None None None None None

abbrev with_sets : List (Option Repeating) → List Field → Pgn
with_sets sets fields =
    record {
      pgn = 129540;
      id = bytes "p";
      type = 1;
      fallback = false;
      variable = true;
      missing_company_fields = false;
      length = 8;
      min_length = None;
      sets = sets;
      fields = fields;
    }

abbrev pgn : Option Repeating → Option Repeating → List Field → Pgn
pgn set1 set2 fields = with_sets (set1 ∷ set2 ∷ []) fields

abbrev set : (start count : ℕ) → Option ℕ → Bool → Option Repeating
set start count count_field nested = Some (record { count = count; start = start; count_field = count_field; nested = nested })

abbrev answer : End → List ℕ → Answer
answer x visits = record { ends = x; visits = visits }

-- the definitions, opened
unfoldable run : Pgn → List ℕ → Answer
unfolding walk walk_with walk_on onward settled settle arrive stand close look arrives put visited latest is_current stop_1 misplaced clash share
    nested_in inside_previous stop_at lookup_missing is_missing match_unfit unfit reference_names_missing lookup_names_missing entries_name_missing
    names_missing lacks lacks_length computed
run p readings = walk P p readings

unfoldable is_held : Pgn → Bool
unfolding held shares_held clash share nested_in count_fields_held count_field_held bit_length_held dynamic_value_held sets_hold target length_source
is_held p = held P p

-- THE ENDS. c and d repeat as often as b says
abbrev counted : Pgn
counted = pgn (set 3 2 (Some 2) false) None (a ∷ b ∷ c ∷ d ∷ e ∷ [])

twice : run counted (9 ∷ 2 ∷ 1 ∷ 1 ∷ 1 ∷ 1 ∷ 7 ∷ 8 ∷ []) ≡ answer whole (0 ∷ 1 ∷ 2 ∷ 3 ∷ 2 ∷ 3 ∷ 4 ∷ [])
unfolding run
twice = refl

not_at_all : run counted (9 ∷ 0 ∷ 1 ∷ 1 ∷ []) ≡ answer whole (0 ∷ 1 ∷ 4 ∷ [])
unfolding run
not_at_all = refl

cut_short : run counted (9 ∷ 2 ∷ 1 ∷ []) ≡ answer used_up (0 ∷ 1 ∷ 2 ∷ [])
unfolding run
cut_short = refl

nothing_read : run counted [] ≡ answer used_up []
unfolding run
nothing_read = refl

no_fields : run (pgn None None []) [] ≡ answer whole []
unfolding run
no_fields = refl

-- without countField the passes never end
endless : run (pgn (set 2 2 None false) None (a ∷ b ∷ c ∷ d ∷ [])) (0 ∷ 0 ∷ 0 ∷ 0 ∷ 0 ∷ 0 ∷ []) ≡ answer used_up (0 ∷ 1 ∷ 2 ∷ 1 ∷ 2 ∷ 1 ∷ [])
unfolding run
endless = refl

-- c, d, e repeat as often as b says; within each of their passes d, e as often as c said
abbrev nested : Pgn
nested = pgn (set 3 3 (Some 2) false) (set 4 2 (Some 3) true) (a ∷ b ∷ c ∷ d ∷ e ∷ f ∷ [])

twice_and_not_at_all : run nested (9 ∷ 2 ∷ 2 ∷ 1 ∷ 1 ∷ 1 ∷ 1 ∷ 0 ∷ 5 ∷ 8 ∷ []) ≡ answer whole (0 ∷ 1 ∷ 2 ∷ 3 ∷ 4 ∷ 3 ∷ 4 ∷ 2 ∷ 5 ∷ [])
unfolding run
twice_and_not_at_all = refl

-- COUNTS THAT ARE NOT AVAILABLE: all ones of 2 to 64 bits
all_ones : tab (λ bits. unavailable bits (2 ^ bits - 1)) 70 ≡ false ∷ false ∷ replicate 63 true ++ replicate 5 false
all_ones = refl

-- z, of so many bits, counts the passes of b
abbrev z_bits : ℕ → Field
z_bits bits = field (bytes "z") NUMBER bits 0 None None None None None

abbrev counted_by : ℕ → Pgn
counted_by bits = pgn (set 2 1 (Some 1) false) None (z_bits bits ∷ b ∷ c ∷ [])

count_255 : run (counted_by 8) (255 ∷ 7 ∷ []) ≡ answer whole (0 ∷ 2 ∷ [])
unfolding run
count_255 = refl

count_254 : run (counted_by 8) (254 ∷ replicate 255 7) ≡ answer whole (0 ∷ replicate 254 1 ++ (2 ∷ []))
unfolding run
count_254 = refl

count_254_cut : run (counted_by 8) (254 ∷ 7 ∷ 7 ∷ []) ≡ answer used_up (0 ∷ 1 ∷ 1 ∷ [])
unfolding run
count_254_cut = refl

-- more than the bits can hold
count_256 : run (counted_by 8) (256 ∷ replicate 257 7) ≡ answer whole (0 ∷ replicate 256 1 ++ (2 ∷ []))
unfolding run
count_256 = refl

count_255_of_16_bits : run (counted_by 16) (255 ∷ replicate 256 7) ≡ answer whole (0 ∷ replicate 255 1 ++ (2 ∷ []))
unfolding run
count_255_of_16_bits = refl

-- one bit counts
count_1_bit : run (counted_by 1) (1 ∷ 7 ∷ 7 ∷ []) ≡ answer whole (0 ∷ 1 ∷ 2 ∷ [])
unfolding run
count_1_bit = refl

count_2_bits : run (counted_by 2) (3 ∷ 7 ∷ []) ≡ answer whole (0 ∷ 2 ∷ [])
unfolding run
count_2_bits = refl

count_2_of_2_bits : run (counted_by 2) (2 ∷ 7 ∷ 7 ∷ 7 ∷ []) ≡ answer whole (0 ∷ 1 ∷ 1 ∷ 2 ∷ [])
unfolding run
count_2_of_2_bits = refl

count_63_bits : run (counted_by 63) ((2 ^ 63 - 1) ∷ 7 ∷ []) ≡ answer whole (0 ∷ 2 ∷ [])
unfolding run
count_63_bits = refl

count_64_bits : run (counted_by 64) ((2 ^ 64 - 1) ∷ 7 ∷ []) ≡ answer whole (0 ∷ 2 ∷ [])
unfolding run
count_64_bits = refl

-- plain: all ones of other bits
count_63_of_64_bits : run (counted_by 64) ((2 ^ 63 - 1) ∷ 7 ∷ 7 ∷ []) ≡ answer used_up (0 ∷ 1 ∷ 1 ∷ [])
unfolding run
count_63_of_64_bits = refl

count_64_of_63_bits : run (counted_by 63) ((2 ^ 64 - 1) ∷ 7 ∷ 7 ∷ []) ≡ answer used_up (0 ∷ 1 ∷ 1 ∷ [])
unfolding run
count_64_of_63_bits = refl

count_65_bits : run (counted_by 65) ((2 ^ 64 - 1) ∷ 7 ∷ 7 ∷ []) ≡ answer used_up (0 ∷ 1 ∷ 1 ∷ [])
unfolding run
count_65_bits = refl

-- the last set: nothing of it is visited, and nothing is read
count_255_at_the_end : run (pgn (set 2 1 (Some 1) false) None (a ∷ b ∷ [])) (255 ∷ []) ≡ answer whole (0 ∷ [])
unfolding run
count_255_at_the_end = refl

-- one countField of two sets
count_255_twice : run (pgn (set 2 1 (Some 1) false) (set 4 1 (Some 1) false) (a ∷ b ∷ c ∷ d ∷ e ∷ [])) (255 ∷ 7 ∷ 7 ∷ []) ≡ answer whole (0 ∷ 2 ∷ 4 ∷ [])
unfolding run
count_255_twice = refl

-- a nested set, in each pass of the outer one anew; an outer set with what is nested in it
count_255_nested : run nested (9 ∷ 3 ∷ 255 ∷ 2 ∷ 7 ∷ 7 ∷ 7 ∷ 7 ∷ 255 ∷ 8 ∷ []) ≡ answer whole (0 ∷ 1 ∷ 2 ∷ 2 ∷ 3 ∷ 4 ∷ 3 ∷ 4 ∷ 2 ∷ 5 ∷ [])
unfolding run
count_255_nested = refl

count_255_outer : run nested (9 ∷ 255 ∷ 8 ∷ []) ≡ answer whole (0 ∷ 1 ∷ 5 ∷ [])
unfolding run
count_255_outer = refl

-- stop 2 comes first: the countField was read, but lies in a set that has been left
count_255_left : run (pgn (set 2 1 (Some 1) false) (set 3 1 (Some 2) false) (a ∷ b ∷ c ∷ [])) (1 ∷ 255 ∷ 7 ∷ [])
    ≡ answer (stop CounterNotCurrent) (0 ∷ 1 ∷ [])
unfolding run
count_255_left = refl

-- STOP 1: start 0; past the fields; a nested set 1; a nested set 2 that is not inside
start_0 : run (pgn (set 0 1 None false) None (a ∷ b ∷ [])) (1 ∷ []) ≡ answer (stop SetMisplaced) []
unfolding run
start_0 = refl

past_the_fields : run (pgn (set 2 2 None false) None (a ∷ b ∷ [])) (1 ∷ []) ≡ answer (stop SetMisplaced) []
unfolding run
past_the_fields = refl

nested_set_1 : run (pgn (set 1 2 None true) None (a ∷ b ∷ [])) (1 ∷ []) ≡ answer (stop SetMisplaced) []
unfolding run
nested_set_1 = refl

nested_at_the_start : run (pgn (set 1 2 None false) (set 1 1 None true) (a ∷ b ∷ [])) (1 ∷ []) ≡ answer (stop SetMisplaced) []
unfolding run
nested_at_the_start = refl

-- but not for empty sets
empty_sets : run (pgn (set 0 0 None true) (set 9 0 None true) (a ∷ b ∷ [])) (1 ∷ 2 ∷ []) ≡ answer whole (0 ∷ 1 ∷ [])
unfolding run
empty_sets = refl

-- STOP 2: the countField is no field, or lies in a set that has been left; it comes before "used up"
count_0 : run (pgn (set 1 1 (Some 0) false) None (a ∷ [])) [] ≡ answer (stop CounterNotCurrent) []
unfolding run
count_0 = refl

count_in_a_left_set : run (pgn (set 2 1 (Some 1) false) (set 3 1 (Some 2) false) (a ∷ b ∷ c ∷ [])) (1 ∷ 1 ∷ 1 ∷ [])
    ≡ answer (stop CounterNotCurrent) (0 ∷ 1 ∷ [])
unfolding run
count_in_a_left_set = refl

-- STOPS 3 to 5
unknown_lookup : run (pgn None None (a ∷ z_looks_up (bytes "M") ∷ [])) (1 ∷ 1 ∷ []) ≡ answer (stop LookupMissing) (0 ∷ [])
unfolding run
unknown_lookup = refl

-- but "used up" comes first
unknown_lookup_unread : run (pgn None None (a ∷ z_looks_up (bytes "M") ∷ [])) (1 ∷ []) ≡ answer used_up (0 ∷ [])
unfolding run
unknown_lookup_unread = refl

wide_match : run (pgn None None (z_matches (bytes "256") ∷ [])) (1 ∷ []) ≡ answer (stop MatchUnfit) []
unfolding run
wide_match = refl

fitting_match : run (pgn None None (z_matches (bytes "+255") ∷ [])) (1 ∷ []) ≡ answer whole (0 ∷ [])
unfolding run
fitting_match = refl

unresolved_match : run (pgn None None (z_matches (bytes "-0") ∷ [])) (1 ∷ []) ≡ answer (stop MatchUnfit) []
unfolding run
unresolved_match = refl

hexadecimal_match : run (pgn None None (z_matches (bytes "0xFf") ∷ [])) (1 ∷ []) ≡ answer whole (0 ∷ [])
unfolding run
hexadecimal_match = refl

wide_hexadecimal : run (pgn None None (z_matches (bytes "0X100") ∷ [])) (1 ∷ []) ≡ answer (stop MatchUnfit) []
unfolding run
wide_hexadecimal = refl

no_hexadecimal : run (pgn None None (z_matches (bytes "0x") ∷ [])) (1 ∷ []) ≡ answer (stop MatchUnfit) []
unfolding run
no_hexadecimal = refl

known_entries : run (pgn None None (z_looks_up (bytes "L") ∷ [])) (1 ∷ []) ≡ answer whole (0 ∷ [])
unfolding run
known_entries = refl

unknown_fieldtype : run (pgn None None (z_looks_up (bytes "L") ∷ [])) (2 ∷ []) ≡ answer (stop EntryNamesMissing) []
unfolding run
unknown_fieldtype = refl

unknown_nested : run (pgn None None (z_looks_up (bytes "L") ∷ [])) (3 ∷ []) ≡ answer (stop EntryNamesMissing) []
unfolding run
unknown_nested = refl

-- STOPS 6 to 9: the target lies in a set that has been left, or is no field
length_in_a_left_set : run (pgn (set 2 1 (Some 1) false) None (a ∷ b ∷ z_as_long_as (bytes "b") ∷ [])) (1 ∷ 1 ∷ 1 ∷ [])
    ≡ answer (stop LengthNotCurrent) (0 ∷ 1 ∷ [])
unfolding run
length_in_a_left_set = refl

continued_in_a_left_set : run (pgn (set 2 1 (Some 1) false) None (a ∷ b ∷ z_continues (bytes "b") ∷ [])) (1 ∷ 1 ∷ 1 ∷ [])
    ≡ answer (stop ContinuedNotCurrent) (0 ∷ 1 ∷ [])
unfolding run
continued_in_a_left_set = refl

no_length : run (pgn None None (a ∷ value ∷ [])) (1 ∷ 1 ∷ []) ≡ answer (stop NoLengthSource) (0 ∷ [])
unfolding run
no_length = refl

length_by_key : run (pgn None None (key ∷ value ∷ [])) (1 ∷ 1 ∷ []) ≡ answer whole (0 ∷ 1 ∷ [])
unfolding run
length_by_key = refl

no_such_target : run (pgn None None (a ∷ z_ends_by (bytes "b") ∷ [])) (1 ∷ 1 ∷ []) ≡ answer (stop TrailingNotCurrent) (0 ∷ [])
unfolding run
no_such_target = refl

-- a pack with no lookup
abbrev Q : Pack
Q = record { fieldtypes = root NUMBER ∷ []; lookups = []; pgns = nested ∷ []; pgns_j1939 = []; pgns_quick = [] }

-- HELD: the PGNs that count are, and one whose target lies in a set that its user does not lie in is not
held_counted : is_held counted ≡ true
unfolding is_held
held_counted = refl

nested_held : held Q nested ≡ true
unfolding is_held
nested_held = refl

not_held : is_held (pgn (set 2 1 (Some 1) false) None (a ∷ b ∷ z_as_long_as (bytes "b") ∷ [])) ≡ false
unfolding is_held
not_held = refl

-- to the letter: the countField of an empty set too
not_held_empty : is_held (pgn (set 1 1 None false) (set 0 0 (Some 1) false) (a ∷ [])) ≡ false
unfolding is_held
not_held_empty = refl

-- WHAT IS NEEDED. Packs of one PGN: what check reports of them, which of the four conditions of `held` hold, and the stop that the walk
-- meets.
abbrev alone : Pgn → Pack
alone p = record { fieldtypes = P.fieldtypes; lookups = []; pgns = p ∷ []; pgns_j1939 = []; pgns_quick = [] }

unfoldable conditions : Pgn → List Bool
unfolding held shares_held clash share nested_in count_fields_held count_field_held bit_length_held dynamic_value_held sets_hold target length_source
conditions p =
    shares_held (layout p)
    ∷ count_fields_held (layout p)
    ∷ every_below (λ i. bit_length_held p i) (length p.fields)
    ∷ every_below (λ i. dynamic_value_held (alone p) p i) (length p.fields)
    ∷ []

unfoldable walk_alone : Pgn → List ℕ → Answer
unfolding walk walk_with walk_on onward settled settle arrive stand close look arrives put visited latest is_current stop_1 misplaced clash share
    nested_in inside_previous stop_at lookup_missing is_missing match_unfit unfit reference_names_missing lookup_names_missing entries_name_missing
    names_missing lacks lacks_length computed
walk_alone p readings = walk (alone p) p readings

-- held, and R05's cause 3 is all that is found: stop 2
abbrev late : Pgn
late = pgn (set 2 1 (Some 3) false) None (a ∷ b ∷ c ∷ [])

late_found : check (alone late) ≡ pgn_error 5 3 0 0 1 0 ∷ []
unfolding computed
late_found = refl

late_conditions : conditions late ≡ true ∷ true ∷ true ∷ true ∷ []
unfolding conditions
late_conditions = refl

late_stops : walk_alone late (1 ∷ []) ≡ answer (stop CounterNotCurrent) (0 ∷ [])
unfolding walk_alone
late_stops = refl

-- By the letter held, since set 2 is nested and its countField lies in set 1; but set 2 holds it too. R05's cause 3 is all that is found.
abbrev counted_inside : Pgn
counted_inside = pgn (set 1 3 None false) (set 2 2 (Some 3) true) (a ∷ b ∷ c ∷ [])

counted_inside_found : check (alone counted_inside) ≡ pgn_error 5 3 0 0 2 0 ∷ []
unfolding computed
counted_inside_found = refl

counted_inside_stops : walk_alone counted_inside (1 ∷ []) ≡ answer (stop CounterNotCurrent) (0 ∷ [])
unfolding walk_alone
counted_inside_stops = refl

-- `held`, by the letter, and the widest
unfoldable held_readings : Pgn → List Bool
unfolding held held_letter held_widest widest_count_fields_held count_field_widest shares_held clash share nested_in count_fields_held
    count_field_held bit_length_held dynamic_value_held sets_hold target length_source
held_readings p = held (alone p) p ∷ held_letter (alone p) p ∷ held_widest (alone p) p ∷ []

counted_inside_readings : held_readings counted_inside ≡ false ∷ true ∷ true ∷ []
unfolding held_readings
counted_inside_readings = refl

-- held, and R15's cause 4 is all that is found: stop 6
abbrev ahead : Pgn
ahead = pgn None None (z_binary ∷ a ∷ [])

ahead_found : check (alone ahead) ≡ pgn_error 15 4 0 0 0 1 ∷ []
unfolding computed
ahead_found = refl

ahead_conditions : conditions ahead ≡ true ∷ true ∷ true ∷ true ∷ []
unfolding conditions
ahead_conditions = refl

ahead_stops : walk_alone ahead (1 ∷ []) ≡ answer (stop LengthNotCurrent) []
unfolding walk_alone
ahead_stops = refl

-- held, and R43's cause 1 is all that is found: stop 7
abbrev continued_ahead : Pgn
continued_ahead = pgn None None (z_continues (bytes "a") ∷ a ∷ [])

continued_ahead_found : check (alone continued_ahead) ≡ pgn_error 43 1 0 0 0 0 ∷ []
unfolding computed
continued_ahead_found = refl

continued_ahead_conditions : conditions continued_ahead ≡ true ∷ true ∷ true ∷ true ∷ []
unfolding conditions
continued_ahead_conditions = refl

continued_ahead_stops : walk_alone continued_ahead (1 ∷ []) ≡ answer (stop ContinuedNotCurrent) []
unfolding walk_alone
continued_ahead_stops = refl

-- no error, but the sets share an order: stop 1
abbrev sharing : Pgn
sharing = pgn (set 1 2 None false) (set 2 1 None false) (a ∷ b ∷ [])

sharing_clean : without_error (check (alone sharing)) ≡ true
unfolding computed
sharing_clean = refl

sharing_conditions : conditions sharing ≡ false ∷ true ∷ true ∷ true ∷ []
unfolding conditions
sharing_conditions = refl

sharing_stops : walk_alone sharing ([]) ≡ answer (stop SetMisplaced) []
unfolding walk_alone
sharing_stops = refl

-- no error, but the countField lies in a set that has been left: stop 2
abbrev counted_before : Pgn
counted_before = pgn (set 2 1 (Some 1) false) (set 3 1 (Some 2) false) (a ∷ b ∷ c ∷ [])

counted_before_clean : without_error (check (alone counted_before)) ≡ true
unfolding computed
counted_before_clean = refl

counted_before_conditions : conditions counted_before ≡ true ∷ false ∷ true ∷ true ∷ []
unfolding conditions
counted_before_conditions = refl

counted_before_stops : walk_alone counted_before (1 ∷ 1 ∷ []) ≡ answer (stop CounterNotCurrent) (0 ∷ 1 ∷ [])
unfolding walk_alone
counted_before_stops = refl

-- no error, but the bitLengthField target lies in a set that has been left: stop 6
-- a counts bits: its resolution is 1
abbrev a_bits : Field
a_bits = record {
  id = a.id;
  name = a.name;
  type = a.type;
  ft = a.ft;
  bits_given = a.bits_given;
  unit_given = a.unit_given;
  proprietary = a.proprietary;
  allow_lookup_width_mismatch = a.allow_lookup_width_mismatch;
  dynamic_field_length = a.dynamic_field_length;
  overhead = a.overhead;
  res_bits = a.res_bits;
  res_resolution = ONE;
  res_offset = a.res_offset;
  res_unit = a.res_unit;
  resolution = a.resolution;
  offset = a.offset;
  spn = a.spn;
  continues = a.continues;
  match = a.match;
  reference = a.reference;
  special_values = a.special_values;
  bit_length_field = a.bit_length_field;
  trailing_zero = a.trailing_zero;
  continuation = a.continuation;
}

abbrev as_long_as_before : Pgn
as_long_as_before = pgn (set 2 1 (Some 1) false) None (b ∷ a_bits ∷ z_binary ∷ [])

as_long_as_before_clean : without_error (check (alone as_long_as_before)) ≡ true
unfolding computed
as_long_as_before_clean = refl

as_long_as_before_conditions : conditions as_long_as_before ≡ true ∷ true ∷ false ∷ true ∷ []
unfolding conditions
as_long_as_before_conditions = refl

as_long_as_before_stops : walk_alone as_long_as_before (1 ∷ 1 ∷ 1 ∷ []) ≡ answer (stop LengthNotCurrent) (0 ∷ 1 ∷ [])
unfolding walk_alone
as_long_as_before_stops = refl

-- no error, but the DYNAMIC_FIELD_KEY lies in a set that has been left: stop 8
abbrev keyed_before : Pgn
keyed_before = pgn (set 2 1 (Some 1) false) None (a ∷ key ∷ value ∷ [])

keyed_before_clean : without_error (check (alone keyed_before)) ≡ true
unfolding computed
keyed_before_clean = refl

keyed_before_conditions : conditions keyed_before ≡ true ∷ true ∷ true ∷ false ∷ []
unfolding conditions
keyed_before_conditions = refl

keyed_before_stops : walk_alone keyed_before (1 ∷ 1 ∷ 1 ∷ []) ≡ answer (stop NoLengthSource) (0 ∷ 1 ∷ [])
unfolding walk_alone
keyed_before_stops = refl

-- THE GUARANTEE at work: the pack with a nested set is checked without one error, and its PGN is held
nested_clean : without_error (check Q) ≡ true
unfolding computed
nested_clean = refl

nested_unstopped : (readings : List ℕ) → Unstopped (walk Q nested readings) (length readings)
nested_unstopped = guarantee Q 0 0 (omega arith) (omega arith) nested_clean nested_held

-- MORE THAN TWO SETS: a chain of three that end together, the outer without end, the middle one passed over once
abbrev three : Layout
three = record {
  fields = a ∷ b ∷ c ∷ d ∷ e ∷ f ∷ [];
  sets =
      record { count = 5; start = 2; count_field = None; nested = false }
      ∷ record { count = 3; start = 4; count_field = Some 3; nested = true }
      ∷ record { count = 1; start = 6; count_field = Some 4; nested = true }
      ∷ [];
}

three_deep :
    walk_with three (by_visits three) (λ current i r. None) (0 ∷ 0 ∷ 0 ∷ 0 ∷ 1 ∷ 2 ∷ 0 ∷ 9 ∷ 9 ∷ 7 ∷ [])
    ≡ answer used_up (0 ∷ 1 ∷ 2 ∷ 1 ∷ 2 ∷ 3 ∷ 4 ∷ 5 ∷ 5 ∷ 1 ∷ [])
unfolding run
three_deep = refl

-- the same of a PGN, which no pack of version 1 says: a counts the passes of b to e, b those of c and d, and the third is given
abbrev of_three : Option Repeating → Pgn
of_three third = with_sets (set 2 4 (Some 1) false ∷ set 3 2 (Some 2) true ∷ third ∷ []) (a ∷ b ∷ c ∷ d ∷ e ∷ [])

-- c counts the passes of d
three_held : is_held (of_three (set 4 1 (Some 3) true)) ≡ true
unfolding is_held
three_held = refl

three_counted : run (of_three (set 4 1 (Some 3) true)) (1 ∷ 2 ∷ 2 ∷ 7 ∷ 7 ∷ 0 ∷ 9 ∷ 9 ∷ []) ≡ answer whole (0 ∷ 1 ∷ 2 ∷ 3 ∷ 3 ∷ 2 ∷ 4 ∷ [])
unfolding run
three_counted = refl

-- the third set ends behind the second
three_misplaced : run (of_three (set 4 2 (Some 3) true)) (1 ∷ []) ≡ answer (stop SetMisplaced) []
unfolding run
three_misplaced = refl

-- its countField lies in it
three_not_held : is_held (of_three (set 4 1 (Some 4) true)) ≡ false
unfolding is_held
three_not_held = refl
