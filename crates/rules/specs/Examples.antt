-- The report example of document 01, its edges, and for each of its errors to shut out an example that the wrong reading fails.
use Rattle.std.specs.Prelude.{ℕ, zero, suc, Bool, true, false, ◌&&◌, List, [], ◌∷◌, ◌++◌, map, ◌≡◌, refl}
use Rattle.std.proofs.Common.{arith, le-leb}
use Rattle.std.specs.Prelude.{Option, None, Some, Ok, Err}
use Rattle.pack.specs.Notation.{◌≐◌, tab}
use Rattle.pack.specs.Value.{Bytes, Entry, Lookup, Repeating, Reference, Field, Pgn, Pack}
use Rattle.pack.specs.declared.load.Refusal.TheVariants.{Absent, Place}
use Rattle.rules.specs.declared.Finding.{Finding}
use Rattle.rules.specs.Check.{check}
use Rattle.rules.specs.Computed.{computed}
use Rattle.rules.specs.Continues.{set_of}
use Rattle.rules.specs.ExamplePacks.{a_field, with_sets, a_pgn, in_nmea2000, in_j1939, NAN, MINUS_ZERO}
use Rattle.rules.specs.Findings.{pgn_error, group_error, only}
use Rattle.rules.specs.Floats.{ONE}
use Rattle.rules.specs.Model.{resolve_match}
use Rattle.rules.specs.PlaceCall.{named, text_left}
use Rattle.rules.specs.PlaceText.{place_text}
use Rattle.rules.specs.Texts.{bytes, NUMBER, DECIMAL}

-- ---- packs

abbrev plain : (id name type : Bytes) (bits : ℕ) → Field
plain id name type bits = a_field id name type bits ONE 0 None None None None None None

abbrev special : (bits value : ℕ) → Field
special bits value = a_field (bytes "a") (bytes "A") NUMBER bits ONE 0 None None None None (Some value) None

abbrev matching : (bits : ℕ) → (match : Bytes) → Option Reference → Field
matching bits match reference = a_field (bytes "a") (bytes "A") NUMBER bits ONE 0 None None (Some match) reference None None

abbrev spn : (number bits resolution offset : ℕ) → Field
spn number bits resolution offset = a_field (bytes "a") (bytes "A") NUMBER bits resolution offset None (Some number) None None None None

abbrev entry : (value : ℕ) (name : Bytes) → Entry
entry value name = record { first = 0; value = value; name = name; fieldtype = NUMBER; nested = None }

abbrev of_fields : List Field → Pack
of_fields fields = in_nmea2000 [] (a_pgn 127488 (bytes "a") None fields ∷ [])

-- ---- the report

abbrev a_set : (start count : ℕ) → Repeating
a_set start count = record { count = count; start = start; count_field = None; nested = false }

abbrev reported : Pack
reported = in_nmea2000 [] (a_pgn 127488 (bytes "a") (Some (a_set 1 2)) (plain (bytes "r") (bytes "Reserved") NUMBER 64 ∷ []) ∷ [])

report : check reported ≡ pgn_error 5 2 0 0 1 0 ∷ pgn_error 12 1 0 0 0 0 ∷ []
unfolding computed
report = refl

report_place : place_text reported 1 0 0 ≡ Some (bytes "pgns/127488-a.yaml")
unfolding computed
report_place = refl

-- ---- the edges that document 01 stars, as one table: the causes that a rule has. A row can go by a value, and holds at each.

abbrev causes : List Finding → List ℕ
causes [] = []
causes (f ∷ fs) = f.cause ∷ causes fs

abbrev findings_of : (rule : ℕ) → Pack → List Finding
findings_of rule P = only rule (check P)

record Edge : Type 0 where
  rule : ℕ
  pack : (value : ℕ) → Pack
  expected : (value : ℕ) → List ℕ

abbrev edge : (rule : ℕ) → Pack → (expected : List ℕ) → Edge
edge rule pack expected = record { rule = rule; pack = λ value. pack; expected = λ value. expected }

abbrev edge_by_value : (rule : ℕ) → (pack : ℕ → Pack) → (expected : ℕ → List ℕ) → Edge
edge_by_value rule pack expected = record { rule = rule; pack = pack; expected = expected }

abbrev single : (number : ℕ) → Pack
single number = in_nmea2000 [] (a_pgn number (bytes "a") None [] ∷ [])

-- a match of any value: it names an entry that has it
abbrev valued : (bits value : ℕ) → Pack
valued bits value =
    in_nmea2000 (record { name = bytes "ANY"; kind = 0; bits = bits; entries = entry value (bytes "x") ∷ [] } ∷ [])
    (a_pgn 127488 (bytes "a") None (matching bits (bytes "x") (Some (record { kind = 0; name = bytes "ANY" })) ∷ []) ∷ [])

-- R13 cause 2 for every value but 0
abbrev but_zero : (value : ℕ) → List ℕ
but_zero zero = []
but_zero (suc value) = 2 ∷ []

abbrev edges : List Edge
edges =
    edge 2 (single 59904) []
    ∷ edge 2 (single 59905) (5 ∷ [])
    ∷ edge 2 (single 61183) (4 ∷ [])
    ∷ edge 2 (single 131072) (3 ∷ [])
    ∷ edge 2 (single 262144) []
    ∷ edge 9 (of_fields (special 1 1 ∷ [])) []
    ∷ edge 9 (of_fields (special 1 2 ∷ [])) (1 ∷ [])
    ∷ edge 9 (of_fields (special 0 0 ∷ [])) []
    ∷ edge 13 (of_fields (matching 3 (bytes "7") None ∷ [])) []
    ∷ edge 13 (of_fields (matching 3 (bytes "8") None ∷ [])) (2 ∷ [])
    ∷ edge 13 (of_fields (matching 64 (bytes "18446744073709551615") None ∷ [])) []
    ∷ edge_by_value 13 (valued 64) (λ value. [])
    ∷ edge 13 (of_fields (matching 0 (bytes "0") None ∷ [])) []
    ∷ edge 13 (of_fields (matching 0 (bytes "1") None ∷ [])) (2 ∷ [])
    ∷ edge_by_value 13 (valued 0) but_zero
    ∷ edge 11 (of_fields (tab (λ k. special 8 0) 33)) []
    ∷ edge 42 (in_j1939 (a_pgn 65262 (bytes "a") None (spn 524287 8 ONE 0 ∷ spn 524287 16 ONE 0 ∷ []) ∷ [])) (3 ∷ [])
    ∷ edge 42 (in_j1939 (a_pgn 65262 (bytes "a") None (spn 524288 8 ONE 0 ∷ spn 524288 16 ONE 0 ∷ []) ∷ [])) (2 ∷ 2 ∷ [])
    ∷ edge
    20
    (in_nmea2000 []
    (a_pgn 127488 (bytes "a") None (matching 8 (bytes "1") None ∷ matching 8 (bytes "2") None ∷ [])
    ∷ a_pgn 127488 (bytes "b") None (matching 8 (bytes "1,1=2") None ∷ [])
    ∷ []))
    (1 ∷ [])
    ∷ []

abbrev all_as_expected : List Edge → (value : ℕ) → Bool
all_as_expected [] value = true
all_as_expected (e ∷ es) value = (causes (findings_of e.rule (e.pack value)) ≐ e.expected value) && all_as_expected es value

edges_hold : (value : ℕ) → all_as_expected edges value ≡ true
unfolding computed
edges_hold zero = refl
edges_hold (suc value) = rw (le-leb 1 (suc value) (omega arith))

-- ---- errors to shut out

-- "R20 and R21 naming the first earlier holder (it is the latest)"
abbrev variant : (id : Bytes) → Pgn
variant id = a_pgn 127488 id None (matching 64 (bytes "1") None ∷ [])

latest_variant : check (in_nmea2000 [] (variant (bytes "a") ∷ variant (bytes "b") ∷ variant (bytes "c") ∷ []))
    ≡ pgn_error 20 1 0 1 0 0 ∷ pgn_error 20 1 0 2 0 1 ∷ []
unfolding computed
latest_variant = refl

abbrev numbered_a : (number : ℕ) → Pgn
numbered_a number = a_pgn number (bytes "a") None []

latest_id : check (in_nmea2000 [] (numbered_a 127488 ∷ numbered_a 127489 ∷ numbered_a 127490 ∷ []))
    ≡ pgn_error 21 1 0 1 0 0 ∷ pgn_error 21 1 0 2 0 1 ∷ []
unfolding computed
latest_id = refl

-- R24 cause 2 too: 7 is named by the field of the least PGN number, 9 clashes with 7 and not with 3, and one text is one place
abbrev named_spn : (number : ℕ) (name : Bytes) → Field
named_spn number name = a_field (bytes "a") name NUMBER 16 ONE 0 None (Some number) None None None None

latest_spn : findings_of 24
    (in_j1939
    (a_pgn 65263 (bytes "b") None (named_spn 7 (bytes "X") ∷ [])
    ∷ a_pgn 65262 (bytes "a") None (named_spn 7 (bytes "Y") ∷ named_spn 3 (bytes "Y") ∷ [])
    ∷ a_pgn 65264 (bytes "c") None (named_spn 9 (bytes "Y") ∷ [])
    ∷ []))
    ≡ pgn_error 24 2 1 1 3 7 ∷ pgn_error 24 2 1 1 7 9 ∷ pgn_error 24 2 1 2 7 9 ∷ []
unfolding computed
latest_spn = refl

-- "scaling compared by bits (NaN, −0)": two fields of one NaN pattern differ, -0 and 0 do not, and a lone NaN is silent
abbrev j1939_fields : List Field → List ℕ
j1939_fields fields = causes (findings_of 42 (in_j1939 (a_pgn 65262 (bytes "a") None fields ∷ [])))

nan_differs : j1939_fields (spn 190 16 NAN 0 ∷ spn 190 16 NAN 0 ∷ []) ≡ 3 ∷ []
unfolding computed
nan_differs = refl

zeros_equal : j1939_fields (spn 190 16 ONE 0 ∷ spn 190 16 ONE MINUS_ZERO ∷ []) ≡ []
unfolding computed
zeros_equal = refl

nan_alone : j1939_fields (spn 190 16 NAN 0 ∷ []) ≡ []
unfolding computed
nan_alone = refl

-- "an empty set with start 0 ignored in R44"
abbrev decimals : List Field
decimals = plain (bytes "f") (bytes "F") NUMBER 8 ∷ a_field (bytes "d") (bytes "D") DECIMAL 56 ONE 0 None None None None None (Some (bytes "f")) ∷ []

abbrev decimal : Option Repeating → Pack
decimal set = in_nmea2000 [] (a_pgn 127488 (bytes "a") set decimals ∷ [])

empty_set : check (decimal (Some (a_set 0 0))) ≡ pgn_error 44 3 0 0 1 0 ∷ []
unfolding computed
empty_set = refl

no_set : check (decimal None) ≡ []
unfolding computed
no_set = refl

-- ---- three places for sets, which no pack of version 1 has

abbrev a_nested : (start count count_field : ℕ) → Repeating
a_nested start count count_field = record { count = count; start = start; count_field = Some count_field; nested = true }

abbrev five : List Field
five =
    plain (bytes "a") (bytes "A") NUMBER 8
    ∷ plain (bytes "b") (bytes "B") NUMBER 8
    ∷ plain (bytes "c") (bytes "C") NUMBER 8
    ∷ plain (bytes "d") (bytes "D") NUMBER 8
    ∷ plain (bytes "e") (bytes "E") NUMBER 8
    ∷ []

-- set 1 holds b to e, set 2 in it c and d, the third is given
abbrev three : Repeating → Pgn
three third = with_sets 127488 (bytes "a") (Some (a_set 2 4) ∷ Some (a_nested 3 2 2) ∷ Some third ∷ []) five

abbrev repeating_of : Repeating → List Finding
repeating_of third = only 5 (check (in_nmea2000 [] (three third ∷ [])))

-- R05: the third beside the second
third_inside : repeating_of (a_nested 4 1 3) ≡ []
unfolding computed
third_inside = refl

third_outside : repeating_of (a_nested 4 2 3) ≡ pgn_error 5 5 0 0 3 0 ∷ []
unfolding computed
third_outside = refl

third_counted_outside : repeating_of (a_nested 4 1 2) ≡ pgn_error 5 4 0 0 3 0 ∷ []
unfolding computed
third_counted_outside = refl

-- R43: the highest that holds the field
highest_of_three : map (set_of (three (a_nested 4 1 3))) (0 ∷ 1 ∷ 2 ∷ 3 ∷ 4 ∷ []) ≡ 0 ∷ 1 ∷ 2 ∷ 3 ∷ 1 ∷ []
unfolding computed
highest_of_three = refl

-- R44: the third too
third_behind : check (in_nmea2000 [] (with_sets 127488 (bytes "a") (None ∷ None ∷ Some (a_set 0 0) ∷ []) decimals ∷ [])) ≡ pgn_error 44 3 0 0 1 0 ∷ []
unfolding computed
third_behind = refl

-- "a match resolved by the lookup's own kind": it goes by the reference's
abbrev on_off : (kind : ℕ) → Lookup
on_off kind = record { name = bytes "ON_OFF"; kind = kind; bits = 64; entries = entry 0 (bytes "Off") ∷ entry 1 (bytes "On") ∷ [] }

abbrev match_on : (lookup reference : ℕ) → List Finding
match_on lookup reference =
    check
    (in_nmea2000 (on_off lookup ∷ [])
    (a_pgn 127488 (bytes "a") None (matching 64 (bytes "On") (Some (record { kind = reference; name = bytes "ON_OFF" })) ∷ []) ∷ []))

pair_by_fieldtype : match_on 0 3 ≡ pgn_error 8 2 0 0 0 0 ∷ pgn_error 13 1 0 0 0 0 ∷ []
unfolding computed
pair_by_fieldtype = refl

fieldtype_by_pair : match_on 3 0 ≡ pgn_error 8 2 0 0 0 0 ∷ pgn_error 13 1 0 0 0 0 ∷ []
unfolding computed
fieldtype_by_pair = refl

pair_by_pair : match_on 0 0 ≡ []
unfolding computed
pair_by_pair = refl

fieldtype_by_fieldtype : match_on 3 3 ≡ []
unfolding computed
fieldtype_by_fieldtype = refl

-- a bit lookup's entries are pairs, whatever kind but fieldtype the reference has
bit_by_triplet : match_on 2 1 ≡ pgn_error 8 2 0 0 0 0 ∷ []
unfolding computed
bit_by_triplet = refl

-- ---- match values in hexadecimal (document 02)

-- "a text of 0x or 0X and 1 to 16 hexadecimal digits now resolves to that number", in small and in capital letters; after the decimal form
abbrev numbers : List Bytes
numbers =
    bytes "0x1F"
    ∷ bytes "0X1f"
    ∷ bytes "0x0"
    ∷ bytes "0x0123456789"
    ∷ bytes "0xaBcDeF"
    ∷ bytes "0XAbCdEf"
    ∷ bytes "0x000000000000001F"
    ∷ bytes "0xFFFFFFFFFFFFFFFF"
    ∷ bytes "31"
    ∷ bytes "+31"
    ∷ []

abbrev their_values : List ℕ
their_values = 31 ∷ 31 ∷ 0 ∷ 4886718345 ∷ 11259375 ∷ 11259375 ∷ 31 ∷ 18446744073709551615 ∷ 31 ∷ 31 ∷ []

-- texts that are no number: no digit, the characters beside the digits, a sign, a blank, another prefix, "Longer digit strings"
abbrev names : List Bytes
names =
    bytes "0x"
    ∷ bytes "0X"
    ∷ bytes "0xG1"
    ∷ bytes "0x1g"
    ∷ bytes "0x/"
    ∷ bytes "0x:"
    ∷ bytes "0x@"
    ∷ bytes "0x`"
    ∷ bytes "+0x1F"
    ∷ bytes "-0x1"
    ∷ bytes " 0x1"
    ∷ bytes "0x1 "
    ∷ bytes "0x_1"
    ∷ bytes "0x+1"
    ∷ bytes "1x0"
    ∷ bytes "00x1"
    ∷ bytes "x1F"
    ∷ bytes "0y1"
    ∷ bytes "001F"
    ∷ bytes "/x1"
    ∷ bytes "1F"
    ∷ bytes "0x0000000000000001F"
    ∷ bytes "0x10000000000000000"
    ∷ []

-- a lookup with an entry of value 7 for each of the texts, and a match on it
abbrev sevens : List Bytes → Lookup
sevens texts = record { name = bytes "L"; kind = 0; bits = 64; entries = map (entry 7) texts }

abbrev matching_sevens : (bits : ℕ) → (match : Bytes) → Field
matching_sevens bits match = matching bits match (Some (record { kind = 0; name = bytes "L" }))

abbrev resolved : (entries matches : List Bytes) → List (Option ℕ)
resolved entries matches = map (λ m. resolve_match (sevens entries ∷ []) (matching_sevens 64 m)) matches

-- the number counts, not the entry of that name
numbers_first : resolved numbers numbers ≡ map (λ v. Some v) their_values
unfolding computed
numbers_first = refl

-- the others "go to the names"
names_found : resolved names names ≡ map (λ m. Some 7) names
unfolding computed
names_found = refl

names_not_found : resolved numbers names ≡ map (λ m. None) names
unfolding computed
names_not_found = refl

-- "R13 .. follow[s] the resolver": 31 takes five bits, whatever the entry's 7 takes
abbrev of_match : (entries : List Bytes) (bits : ℕ) (match : Bytes) → Pack
of_match entries bits match = in_nmea2000 (sevens entries ∷ []) (a_pgn 127488 (bytes "a") None (matching_sevens bits match ∷ []) ∷ [])

abbrev hexadecimal_edges : List Edge
hexadecimal_edges =
    edge 13 (of_match [] 5 (bytes "0x1F")) []
    ∷ edge 13 (of_match [] 4 (bytes "0x1F")) (2 ∷ [])
    ∷ edge 13 (of_match numbers 5 (bytes "0X1f")) []
    ∷ edge 13 (of_match numbers 4 (bytes "0X1f")) (2 ∷ [])
    ∷ edge 13 (of_match [] 64 (bytes "0xFFFFFFFFFFFFFFFF")) []
    ∷ edge 13 (of_match [] 63 (bytes "0xFFFFFFFFFFFFFFFF")) (2 ∷ [])
    ∷ edge 13 (of_match names 3 (bytes "0x")) []
    ∷ edge 13 (of_match names 2 (bytes "0x")) (2 ∷ [])
    ∷ edge 13 (of_match [] 3 (bytes "0x")) (1 ∷ [])
    ∷ edge 13 (of_match names 3 (bytes "0x0000000000000001F")) []
    ∷ edge 13 (of_match [] 64 (bytes "0x0000000000000001F")) (1 ∷ [])
    ∷ edge 13 (of_match names 3 (bytes "+0x1F")) []
    ∷ edge 13 (of_match [] 64 (bytes "+0x1F")) (1 ∷ [])
    ∷ edge 13 (of_fields (matching 5 (bytes "0x1F") (Some (record { kind = 0; name = bytes "MISSING" })) ∷ [])) []
    ∷ edge 13 (of_fields (matching 4 (bytes "0x1F") (Some (record { kind = 3; name = bytes "MISSING" })) ∷ [])) (2 ∷ [])
    ∷ []

hexadecimal_edges_hold : all_as_expected hexadecimal_edges 0 ≡ true
unfolding computed
hexadecimal_edges_hold = refl

-- R20 goes by the texts: 0x1 and 1 are two, 0x1 and 0x1 one
abbrev matched_by : (id match : Bytes) → Pgn
matched_by id match = a_pgn 127488 id None (matching 64 match None ∷ [])

by_text : check (in_nmea2000 [] (matched_by (bytes "a") (bytes "0x1") ∷ matched_by (bytes "b") (bytes "1") ∷ matched_by (bytes "c") (bytes "0x1") ∷ []))
    ≡ pgn_error 20 1 0 2 0 0 ∷ []
unfolding computed
by_text = refl

-- ---- place texts

places : (place_text reported 0 0 0 ≡ Some (bytes "fieldtypes.yaml"))
    × (place_text reported 3 0 127488 ≡ Some (bytes "pgns/127488-*.yaml"))
    × (place_text reported 1 0 1 ≡ None)
    × (place_text reported 0 1 0 ≡ None)
    × (place_text reported 4 0 0 ≡ None)
    × (place_text (in_j1939 (a_pgn 190 (bytes "b") None [] ∷ [])) 1 1 0 ≡ Some (bytes "j1939/pgns/000190-b.yaml"))
    × (place_text (in_nmea2000 (on_off 0 ∷ []) []) 2 0 0 ≡ Some (bytes "lookups/ON_OFF.yaml"))
unfolding computed
places = (refl, refl, refl, refl, refl, refl, refl)

-- at the edges of six digits
place_numbers : map (λ (n : ℕ). place_text (single n) 1 0 0)
    (0 ∷ 99999 ∷ 100000 ∷ 999999 ∷ 1000000 ∷ 4294967295 ∷ [])
    ≡ map (λ (b : Bytes). Some (bytes "pgns/" ++ b ++ bytes "-a.yaml"))
    (bytes "000000" ∷ bytes "099999" ∷ bytes "100000" ∷ bytes "999999" ∷ bytes "1000000" ∷ bytes "4294967295" ∷ [])
unfolding computed
place_numbers = refl

-- 23 before 24, the length needed, and nothing written behind the text
place_ends : (named (place_text reported 1 0 1) 0 ≡ Err Absent)
    × (named (place_text reported 1 0 0) 17 ≡ Err (Place 18))
    × (named (place_text reported 1 0 0) 18 ≡ Ok 18)
    × (text_left (Ok 15) (place_text reported 0 0 0) (tab (λ i. i) 17) ≡ bytes "fieldtypes.yaml" ++ (15 ∷ 16 ∷ []))
unfolding computed
place_ends = (refl, refl, refl, refl)

-- a group without matches stands at the number
matchless : check (in_nmea2000 [] (a_pgn 127488 (bytes "a") None [] ∷ a_pgn 127488 (bytes "b") None [] ∷ [])) ≡ group_error 20 2 0 127488 2 ∷ []
unfolding computed
matchless = refl
