-- How many findings a rule can have: so many for each record that it looks at. A law for each rule and each of its parts.
use Rattle.std.specs.Prelude.{ℕ, zero, suc, ◌+◌, ◌*◌, ◌≤◌, Bool, true, false, not, List, [], ◌∷◌, ◌++◌, ◌≡◌, length, get_or, ◌==◌, if◌then◌else◌}
use Rattle.std.proofs.Common.{arith, length-append}
use Rattle.std.specs.Prelude.{Option, None, Some}
use Rattle.pack.specs.Notation.{concat_below}
use Rattle.pack.specs.Value.{Bytes, FieldType, Lookup, Entry, Reference, Repeating, Field, Pgn, Pack, pgns_of, no_pgn, no_lookup, field_at, set_place}
use Rattle.pack.specs.Value.{lookup_at, entry_at}
use Rattle.rules.specs.declared.Finding.{Finding}
use Rattle.rules.specs.Findings.{report_if, lookup_warning}
use Rattle.rules.specs.Model.{fieldtype_of, lookup_ref, fieldtypes}
use Rattle.rules.specs.Search.{sum_below}
use Rattle.rules.specs.Fieldtypes.{check_fieldtypes, fieldtype_at}
use Rattle.rules.specs.LookupWiring.{check_lookup_wiring, referenced, check_lookup_refs, lookup_ref_at, lookup_found_at, lookup_width_at}
use Rattle.rules.specs.LookupWiring.{check_nested_refs, fieldtype_entry_at, nested_lookup_at}
use Rattle.rules.specs.LookupNames.{check_lookup_names, lookup_names_of, same_name_as}
use Rattle.rules.specs.SpnNames.{check_spn_names, clash_of, clash_with, clash_at}
use Rattle.rules.specs.PgnRange.{check_pgn_range, quick_range, found_range, Range}
use Rattle.rules.specs.FrameLength.{check_frame_length}
use Rattle.rules.specs.Repeating.{check_repeating, set_before, check_set, set_bounds, set_count_field, set_nesting}
use Rattle.rules.specs.DynamicLength.{check_dynamic_length, dynamic_length_at}
use Rattle.rules.specs.Proprietary.{check_proprietary}
use Rattle.rules.specs.SpecialValues.{check_special_values, special_values_at}
use Rattle.rules.specs.FieldCount.{check_field_count}
use Rattle.rules.specs.ReservedIds.{check_reserved_ids, reserved_id_at}
use Rattle.rules.specs.MatchValues.{check_match_values, match_value_at, resolved_at}
use Rattle.rules.specs.FieldTypeOverrides.{check_field_type_overrides, overrides_at}
use Rattle.rules.specs.BitLengthField.{check_bit_length_field, bit_length_field_at, bit_length_target_at}
use Rattle.rules.specs.TrailingZero.{check_trailing_zero_is_digit, trailing_zero_at, trailing_zero_target_at}
use Rattle.rules.specs.MinLength.{check_min_length, min_length_at}
use Rattle.rules.specs.Variants.{check_variants, group_findings, variant_at, duplicate_of}
use Rattle.rules.specs.UniqueIds.{check_unique_ids, same_id_as, unique_field_ids}
use Rattle.rules.specs.Spns.{check_spns, spns_elsewhere, check_scalings, spn_at, unlike_first, unlike_field}
use Rattle.rules.specs.Continues.{check_continues, continues_at, continued_found_at, continued_at}
use Rattle.rules.specs.Check.{check, check_tree, check_tree_continues, check_pgn}

-- at most n findings
pub record AtMost (n : ℕ) (fs : List Finding) : Type 0 where
  pub bound : length fs ≤ n

pub most_if : (b : Bool) (f : Finding) → AtMost 1 (report_if b f)
most_if true f = record { bound = omega arith }
most_if false f = record { bound = omega arith }

pub most_pick : (n : ℕ) (b : Bool) (xs ys : List Finding) → AtMost n xs → AtMost n ys → AtMost n (if b then xs else ys)
most_pick n true xs ys h k = h
most_pick n false xs ys h k = k

pub most_none : (n : ℕ) → AtMost n []
most_none n = record { bound = omega arith }

pub most_one : (f : Finding) → AtMost 1 (f ∷ [])
most_one f = record { bound = omega arith }

pub most_append : (a b : ℕ) (xs ys : List Finding) → AtMost a xs → AtMost b ys → AtMost (a + b) (xs ++ ys)
most_append a b xs ys h k = record { bound = omega (arith, h.bound, k.bound, length-append xs ys) }

-- the same at numerals, which a search does not take apart
pub one_of_two : (f : Finding) → AtMost 2 (f ∷ [])
one_of_two f = record { bound = omega arith }

pub most_two : (xs ys : List Finding) → AtMost 1 xs → AtMost 1 ys → AtMost 2 (xs ++ ys)
most_two = most_append 1 1

pub most_three : (xs ys : List Finding) → AtMost 2 xs → AtMost 1 ys → AtMost 3 (xs ++ ys)
most_three = most_append 2 1

pub most_below : (c : ℕ) (f : ℕ → List Finding) → ((k : ℕ) → AtMost c (f k)) → (n : ℕ) → AtMost (n * c) (concat_below f n)
most_below c f h zero = record { bound = omega arith }
most_below c f h (suc n) = record { bound = omega (arith, (most_below c f h n).bound, (h n).bound, length-append (concat_below f n) (f n)) }

pub most_four : (xs ys : List Finding) → AtMost 3 xs → AtMost 1 ys → AtMost 4 (xs ++ ys)
most_four = most_append 3 1

pub most_five : (xs ys : List Finding) → AtMost 4 xs → AtMost 1 ys → AtMost 5 (xs ++ ys)
most_five = most_append 4 1

pub most_six : (xs ys : List Finding) → AtMost 5 xs → AtMost 1 ys → AtMost 6 (xs ++ ys)
most_six = most_append 5 1

ruleset Most = (most_if, most_pick, most_none, most_one, one_of_two, most_two, most_three, most_four, most_five, most_six)

-- ---- of a field, an entry, a field type

pub fieldtype_most : (i : ℕ) (ft : FieldType) → AtMost 1 (fieldtype_at i ft)
unfolding fieldtype_at
fieldtype_most i ft = search Most

lookup_width_most : (t i k : ℕ) (f : Field) (l : ℕ) (lookup : Lookup) → AtMost 1 (lookup_width_at t i k f l lookup)
unfolding lookup_width_at
lookup_width_most t i k f l lookup = search Most

lookup_found_most : (ls : List Lookup) (t i k : ℕ) (f : Field) (r : Reference) (l : Option ℕ) → AtMost 2 (lookup_found_at ls t i k f r l)
unfolding lookup_found_at
lookup_found_most ls t i k f r None = search Most
lookup_found_most ls t i k f r (Some l) = search (Most, lookup_width_most)

pub lookup_ref_most : (ls : List Lookup) (t i k : ℕ) (f : Field) (r : Option Reference) → AtMost 2 (lookup_ref_at ls t i k f r)
unfolding lookup_ref_at
lookup_ref_most ls t i k f None = search Most
lookup_ref_most ls t i k f (Some r) = lookup_found_most ls t i k f r _

nested_lookup_most : (ls : List Lookup) (l e : ℕ) (name : Option Bytes) → AtMost 1 (nested_lookup_at ls l e name)
unfolding nested_lookup_at
nested_lookup_most ls l e None = search Most
nested_lookup_most ls l e (Some name) = search Most

pub fieldtype_entry_most : (P : Pack) (l e : ℕ) (entry : Entry) → AtMost 2 (fieldtype_entry_at P l e entry)
unfolding fieldtype_entry_at
fieldtype_entry_most P l e entry = search (Most, nested_lookup_most)

pub same_name_most : (l e : ℕ) (d : Option ℕ) → AtMost 1 (same_name_as l e d)
unfolding same_name_as
same_name_most l e None = search Most
same_name_most l e (Some d) = search Most

pub dynamic_length_most : (fts : List FieldType) (t i : ℕ) (p : Pgn) (k : ℕ) (f : Field) → AtMost 3 (dynamic_length_at fts t i p k f)
unfolding dynamic_length_at
dynamic_length_most fts t i p k f = search Most

pub special_values_most : (t i k bits : ℕ) (sv : Option ℕ) → AtMost 1 (special_values_at t i k bits sv)
unfolding special_values_at
special_values_most t i k bits None = search Most
special_values_most t i k bits (Some sv) = search Most

pub reserved_id_most : (t i k : ℕ) (f : Field) → AtMost 1 (reserved_id_at t i k f)
unfolding reserved_id_at
reserved_id_most t i k f = search Most

resolved_most : (t i k bits : ℕ) (v : Option ℕ) → AtMost 1 (resolved_at t i k bits v)
unfolding resolved_at
resolved_most t i k bits None = search Most
resolved_most t i k bits (Some v) = search Most

pub match_value_most : (ls : List Lookup) (t i : ℕ) (p : Pgn) (k : ℕ) → AtMost 1 (match_value_at ls t i p k)
unfolding match_value_at
match_value_most ls t i p k = search (Most, resolved_most)

pub overrides_most : (t i k : ℕ) (f : Field) (ft : FieldType) → AtMost 2 (overrides_at t i k f ft)
unfolding overrides_at
overrides_most t i k f ft = search Most

bit_length_target_most : (t i : ℕ) (p : Pgn) (k : ℕ) (j : Option ℕ) → AtMost 1 (bit_length_target_at t i p k j)
unfolding bit_length_target_at
bit_length_target_most t i p k None = search Most
bit_length_target_most t i p k (Some j) = search Most

pub bit_length_field_most : (t i : ℕ) (p : Pgn) (k : ℕ) (id : Option Bytes) → AtMost 1 (bit_length_field_at t i p k id)
unfolding bit_length_field_at
bit_length_field_most t i p k None = search Most
bit_length_field_most t i p k (Some id) = search (Most, bit_length_target_most)

trailing_zero_target_most : (fts : List FieldType) (t i : ℕ) (p : Pgn) (k : ℕ) (j : Option ℕ) → AtMost 1 (trailing_zero_target_at fts t i p k j)
unfolding trailing_zero_target_at
trailing_zero_target_most fts t i p k None = search Most
trailing_zero_target_most fts t i p k (Some j) = search Most

pub trailing_zero_most : (fts : List FieldType) (t i : ℕ) (p : Pgn) (k : ℕ) (id : Option Bytes) → AtMost 1 (trailing_zero_at fts t i p k id)
unfolding trailing_zero_at
trailing_zero_most fts t i p k None = search Most
trailing_zero_most fts t i p k (Some id) = search (Most, trailing_zero_target_most)

unlike_field_most : (pgns : List Pgn) (i k j : ℕ) (h : Option ℕ) → AtMost 1 (unlike_field pgns i k j h)
unfolding unlike_field
unlike_field_most pgns i k j None = search Most
unlike_field_most pgns i k j (Some h) = search Most

unlike_first_most : (pgns : List Pgn) (i k s : ℕ) (j : Option ℕ) → AtMost 1 (unlike_first pgns i k s j)
unfolding unlike_first
unlike_first_most pgns i k s None = search Most
unlike_first_most pgns i k s (Some j) = unlike_field_most pgns i k j _

pub spn_most : (pgns : List Pgn) (i k : ℕ) (s : Option ℕ) → AtMost 1 (spn_at pgns i k s)
unfolding spn_at
spn_most pgns i k None = search Most
spn_most pgns i k (Some s) = search (Most, unlike_first_most)

continued_most : (fts : List FieldType) (t i : ℕ) (p : Pgn) (k : ℕ) (f : Field) (id : Bytes) (j : ℕ) (low : Field)
    → AtMost 6 (continued_at fts t i p k f id j low)
unfolding continued_at
continued_most fts t i p k f id j low = search Most depth 9

one_of_six : (f : Finding) → AtMost 6 (f ∷ [])
one_of_six f = record { bound = omega arith }

continued_found_most : (fts : List FieldType) (t i : ℕ) (p : Pgn) (k : ℕ) (id : Bytes) (j : Option ℕ) → AtMost 6 (continued_found_at fts t i p k id j)
unfolding continued_found_at
continued_found_most fts t i p k id None = one_of_six _
continued_found_most fts t i p k id (Some j) = continued_most fts t i p k _ id j _

pub continues_most : (fts : List FieldType) (t i : ℕ) (p : Pgn) (k : ℕ) (id : Option Bytes) → AtMost 6 (continues_at fts t i p k id)
unfolding continues_at
continues_most fts t i p k None = search Most
continues_most fts t i p k (Some id) = continued_found_most fts t i p k id _

two_of_two : (f g : Finding) → AtMost 2 (f ∷ g ∷ [])
two_of_two f g = record { bound = omega arith }

-- two an SPN
clash_most : (pgns : List Pgn) (earlier s i j : ℕ) → AtMost 2 (clash_at pgns earlier s i j)
unfolding clash_at
clash_most pgns earlier s i j = search (Most, two_of_two)

clash_with_most : (pgns : List Pgn) (s : ℕ) (e : Option ℕ) → AtMost 2 (clash_with pgns s e)
unfolding clash_with
clash_with_most pgns s None = search Most
clash_with_most pgns s (Some e) = clash_most pgns e s _ _

pub clash_of_most : (pgns : List Pgn) (s : Option ℕ) → AtMost 2 (clash_of pgns s)
clash_of_most pgns None = search Most
clash_of_most pgns (Some s) = clash_with_most pgns s _

-- ---- of a PGN, beside its fields

quick_range_most : (t i : ℕ) (p : Pgn) → AtMost 2 (quick_range t i p)
unfolding quick_range
quick_range_most t i p = search Most

found_range_most : (t i : ℕ) (p : Pgn) (r : Option Range) → AtMost 2 (found_range t i p r)
unfolding found_range
found_range_most t i p None = search Most
found_range_most t i p (Some r) = search Most

pub pgn_range_most : (t i : ℕ) (p : Pgn) → AtMost 2 (check_pgn_range t i p)
unfolding check_pgn_range
pgn_range_most t i p = search (Most, quick_range_most, found_range_most)

pub frame_length_most : (t i : ℕ) (p : Pgn) → AtMost 2 (check_frame_length t i p)
unfolding check_frame_length
frame_length_most t i p = search Most

set_count_most : (t i n start : ℕ) (c : Option ℕ) → AtMost 1 (set_count_field t i n start c)
unfolding set_count_field
set_count_most t i n start None = search Most
set_count_most t i n start (Some c) = search Most

set_nesting_most : (t i n : ℕ) (outer : Option Repeating) (r : Repeating) → AtMost 1 (set_nesting t i n outer r)
unfolding set_nesting
set_nesting_most t i n None r = search Most
set_nesting_most t i n (Some o) r = search Most

-- three a set
pub set_most : (t i n fields : ℕ) (outer set : Option Repeating) → AtMost 3 (check_set t i n fields outer set)
unfolding check_set set_bounds
set_most t i n fields outer None = search Most
set_most t i n fields outer (Some r) = search (Most, set_count_most, set_nesting_most)

pub repeating_most : (t i : ℕ) (p : Pgn) → AtMost (length p.sets * 3) (check_repeating t i p)
unfolding check_repeating
repeating_most t i p = most_below 3 _ (λ k. set_most t i (k + 1) (length p.fields) (set_before p k) (set_place p k)) (length p.sets)

pub proprietary_most : (fts : List FieldType) (t i : ℕ) (p : Pgn) → AtMost 1 (check_proprietary fts t i p)
unfolding check_proprietary
proprietary_most fts t i p = search Most

pub field_count_most : (t i : ℕ) (p : Pgn) → AtMost 1 (check_field_count t i p)
unfolding check_field_count
field_count_most t i p = search Most

min_length_at_most : (t i : ℕ) (p : Pgn) (m : Option ℕ) → AtMost 1 (min_length_at t i p m)
unfolding min_length_at
min_length_at_most t i p None = search Most
min_length_at_most t i p (Some m) = search Most

pub min_length_most : (t i : ℕ) (p : Pgn) → AtMost 1 (check_min_length t i p)
unfolding check_min_length
min_length_most t i p = min_length_at_most t i p p.min_length

pub same_id_most : (t i : ℕ) (j : Option ℕ) → AtMost 1 (same_id_as t i j)
unfolding same_id_as
same_id_most t i None = search Most
same_id_most t i (Some j) = search Most

duplicate_most : (t : ℕ) (pgns : List Pgn) (i : ℕ) (j : Option ℕ) → AtMost 1 (duplicate_of t pgns i j)
unfolding duplicate_of
duplicate_most t pgns i None = search Most
duplicate_most t pgns i (Some j) = search Most

pub variant_most : (t : ℕ) (pgns : List Pgn) (number i : ℕ) → AtMost 1 (variant_at t pgns number i)
unfolding variant_at
variant_most t pgns number i = search (Most, duplicate_most)

-- ---- of a pack

pub most_sum : (g : ℕ → ℕ) (f : ℕ → List Finding) → ((k : ℕ) → AtMost (g k) (f k)) → (n : ℕ) → AtMost (sum_below g n) (concat_below f n)
most_sum g f h zero = record { bound = omega arith }
most_sum g f h (suc n) = record { bound = omega (arith, (most_sum g f h n).bound, (h n).bound, length-append (concat_below f n) (f n)) }

sum_times : (g : ℕ → ℕ) (c n : ℕ) → sum_below (λ i. g i * c) n ≡ sum_below g n * c
sum_times g c zero = omega arith
sum_times g c (suc n) = omega (arith, sum_times g c n)

sum_plus : (a : ℕ) (g : ℕ → ℕ) (n : ℕ) → sum_below (λ i. a + g i) n ≡ n * a + sum_below g n
sum_plus a g zero = omega arith
sum_plus a g (suc n) = omega (arith, sum_plus a g n)

sum_both : (a : ℕ) (g h : ℕ → ℕ) (n : ℕ) → sum_below (λ i. a + g i + h i) n ≡ n * a + sum_below g n + sum_below h n
sum_both a g h zero = omega arith
sum_both a g h (suc n) = omega (arith, sum_both a g h n)

abbrev pub fields_of : List Pgn → ℕ
fields_of pgns = sum_below (λ i. length (get_or pgns i no_pgn).fields) (length pgns)

abbrev pub places_of : List Pgn → ℕ
places_of pgns = sum_below (λ i. length (get_or pgns i no_pgn).sets) (length pgns)

abbrev pub entries_of : List Lookup → ℕ
entries_of ls = sum_below (λ l. length (get_or ls l no_lookup).entries) (length ls)

pgn_most : (P : Pack) (t i : ℕ) (p : Pgn) → AtMost (7 + length p.sets * 3 + length p.fields * 10) (check_pgn P t i p)
unfolding check_pgn check_dynamic_length check_special_values check_reserved_ids check_match_values check_field_type_overrides check_bit_length_field
    check_trailing_zero_is_digit
pgn_most P t i p =
    let n = length p.fields in
    let c1 = most_append _ _ _ _ (pgn_range_most t i p) (frame_length_most t i p) in
    let c2 = most_append _ _ _ _ c1 (repeating_most t i p) in
    let c3 = most_append _ _ _ _ c2 (most_below 3 _ (λ k. dynamic_length_most P.fieldtypes t i p k (field_at p k)) n) in
    let c4 = most_append _ _ _ _ c3 (proprietary_most P.fieldtypes t i p) in
    let c5 = most_append _ _ _ _ c4 (most_below 1 _ (λ k. special_values_most t i k (field_at p k).res_bits (field_at p k).special_values) n) in
    let c6 = most_append _ _ _ _ c5 (field_count_most t i p) in
    let c7 = most_append _ _ _ _ c6 (most_below 1 _ (λ k. reserved_id_most t i k (field_at p k)) n) in
    let c8 = most_append _ _ _ _ c7 (most_below 1 _ (λ k. match_value_most P.lookups t i p k) n) in
    let c9 = most_append _ _ _ _ c8 (most_below 2 _ (λ k. overrides_most t i k (field_at p k) (fieldtype_of P.fieldtypes (field_at p k))) n) in
    let c10 = most_append _ _ _ _ c9 (most_below 1 _ (λ k. bit_length_field_most t i p k (field_at p k).bit_length_field) n) in
    let c11 = most_append _ _ _ _ c10 (most_below 1 _ (λ k. trailing_zero_most P.fieldtypes t i p k (field_at p k).trailing_zero) n) in
    let c12 = most_append _ _ _ _ c11 (min_length_most t i p) in
    record { bound = omega (arith, c12.bound) }

-- R08, 1 to 5
pub refs_most : (ls : List Lookup) (t i : ℕ) (p : Pgn) → AtMost (length p.fields * 2) (check_lookup_refs ls t i p)
unfolding check_lookup_refs
refs_most ls t i p = most_below 2 _ (λ k. lookup_ref_most ls t i k (field_at p k) (lookup_ref (field_at p k))) (length p.fields)

fieldtypes_le : (l : Lookup) → length (fieldtypes l) ≤ length l.entries
unfolding fieldtypes
fieldtypes_le l = go (l.kind == 3)
  where
    go : (b : Bool) → length (if b then l.entries else []) ≤ length l.entries
    go true = omega arith
    go false = omega arith

-- R08, 6 and 7
pub nested_most : (P : Pack) (l : ℕ) (lookup : Lookup) → AtMost (length lookup.entries * 2) (check_nested_refs P l lookup)
unfolding check_nested_refs
nested_most P l lookup =
    let c = most_below 2 _ (λ e. fieldtype_entry_most P l e (entry_at (fieldtypes lookup) e)) (length (fieldtypes lookup)) in
    record { bound = omega (arith, c.bound, fieldtypes_le lookup) }

-- R24 cause 1
pub names_most : (l : ℕ) (lookup : Lookup) → AtMost (length lookup.entries * 1) (lookup_names_of l lookup)
unfolding lookup_names_of
names_most l lookup = search (Most, most_below, same_name_most)

-- R43
pub pgn_continues_most : (fts : List FieldType) (t i : ℕ) (p : Pgn) → AtMost (length p.fields * 6) (check_continues fts t i p)
unfolding check_continues
pgn_continues_most fts t i p = most_below 6 _ (λ k. continues_most fts t i p k (field_at p k).continues) (length p.fields)

-- R42
pub elsewhere_most : (t i : ℕ) (p : Pgn) → AtMost (length p.fields * 1) (spns_elsewhere t i p)
unfolding spns_elsewhere
elsewhere_most t i p = search (Most, most_below)

pub scalings_most : (pgns : List Pgn) (i : ℕ) (p : Pgn) → AtMost (length p.fields * 1) (check_scalings pgns i p)
unfolding check_scalings
scalings_most pgns i p = most_below 1 _ (λ k. spn_most pgns i k (field_at p k).spn) (length p.fields)

-- R24 cause 2
pub spn_names_most : (pgns : List Pgn) → AtMost (fields_of pgns * 2) (check_spn_names pgns)
unfolding check_spn_names
spn_names_most pgns = search (most_below, clash_of_most)

-- R20. Each group looks through all PGNs: a coarse bound.
group_most : (t : ℕ) (pgns : List Pgn) (number : Option ℕ) → AtMost (length pgns * 1 + 1) (group_findings t pgns number)
unfolding group_findings
group_most t pgns None = most_none _
group_most t pgns (Some number) = search (most_append, most_below, variant_most, most_if)

pub variants_most : (t : ℕ) (pgns : List Pgn) → AtMost (length pgns * (length pgns * 1 + 1)) (check_variants t pgns)
unfolding check_variants
variants_most t pgns = search (most_below, group_most)

-- R21
ids_most : (t i : ℕ) (p : Pgn) → AtMost (length p.fields * 1) (unique_field_ids t i p)
unfolding unique_field_ids
ids_most t i p = search (most_below, most_if)

ids_of_most : (t : ℕ) (pgns : List Pgn)
    → AtMost (sum_below (λ i. 1 + length (get_or pgns i no_pgn).fields * 1) (length pgns)) (check_unique_ids t pgns)
unfolding check_unique_ids
ids_of_most t pgns = search (most_sum, most_append, same_id_most, ids_most)

pub unique_ids_most : (t : ℕ) (pgns : List Pgn) → AtMost (length pgns * 1 + fields_of pgns) (check_unique_ids t pgns)
unique_ids_most t pgns =
    let g : ℕ → ℕ = λ i. length (get_or pgns i no_pgn).fields in
    record { bound = omega (arith, (ids_of_most t pgns).bound, sum_plus 1 (λ i. g i * 1) (length pgns), sum_times g 1 (length pgns)) }

-- what each PGN has, summed over a tree
tree_sum : (c : ℕ) (pgns : List Pgn) (f : ℕ → Pgn → List Finding) → ((i : ℕ) (p : Pgn) → AtMost (length p.fields * c) (f i p))
    → AtMost (fields_of pgns * c) (concat_below (λ i. f i (get_or pgns i no_pgn)) (length pgns))
tree_sum c pgns f h =
    let g : ℕ → ℕ = λ i. length (get_or pgns i no_pgn).fields in
    let m = most_sum (λ i. g i * c) (λ i. f i (get_or pgns i no_pgn)) (λ i. h i (get_or pgns i no_pgn)) (length pgns) in
    record { bound = omega (arith, m.bound, sum_times g c (length pgns)) }

lookup_sum : (c : ℕ) (ls : List Lookup) (f : ℕ → Lookup → List Finding) → ((l : ℕ) (lookup : Lookup) → AtMost (length lookup.entries * c) (f l lookup))
    → AtMost (entries_of ls * c) (concat_below (λ l. f l (get_or ls l no_lookup)) (length ls))
lookup_sum c ls f h =
    let g : ℕ → ℕ = λ l. length (get_or ls l no_lookup).entries in
    let m = most_sum (λ l. g l * c) (λ l. f l (get_or ls l no_lookup)) (λ l. h l (get_or ls l no_lookup)) (length ls) in
    record { bound = omega (arith, m.bound, sum_times g c (length ls)) }

tree_pgns_most : (P : Pack) (t : ℕ) (pgns : List Pgn)
    → AtMost (length pgns * 7 + places_of pgns * 3 + fields_of pgns * 10) (concat_below (λ i. check_pgn P t i (get_or pgns i no_pgn)) (length pgns))
tree_pgns_most P t pgns =
    let g : ℕ → ℕ = λ i. length (get_or pgns i no_pgn).fields in
    let h : ℕ → ℕ = λ i. length (get_or pgns i no_pgn).sets in
    let n = length pgns in
    let m = most_sum (λ i. 7 + h i * 3 + g i * 10) (λ i. check_pgn P t i (get_or pgns i no_pgn)) (λ i. pgn_most P t i (get_or pgns i no_pgn)) n in
    record { bound = omega (arith, m.bound, sum_both 7 (λ i. h i * 3) (λ i. g i * 10) n, sum_times h 3 n, sum_times g 10 n) }

tree_most : (P : Pack) (t : ℕ)
    → AtMost (length (pgns_of P t) * (length (pgns_of P t) + 9) + places_of (pgns_of P t) * 3 + fields_of (pgns_of P t) * 11) (check_tree P t)
unfolding check_tree
tree_most P t =
    let pgns = pgns_of P t in
    let c = most_append _ _ _ _ (most_append _ _ _ _ (tree_pgns_most P t pgns) (variants_most t pgns)) (unique_ids_most t pgns) in
    record { bound = omega (arith, c.bound) }

wiring_most : (P : Pack)
    → AtMost (sum_below (λ t. fields_of (pgns_of P t) * 2) 3 + entries_of P.lookups * 2 + length P.lookups * 1) (check_lookup_wiring P)
unfolding check_lookup_wiring
wiring_most P =
    most_append _ _ _ _
    (most_append _ _ _ _
    (most_sum (λ t. fields_of (pgns_of P t) * 2) _ (λ t. tree_sum 2 (pgns_of P t) (check_lookup_refs P.lookups t) (refs_most P.lookups t)) 3)
    (lookup_sum 2 P.lookups (check_nested_refs P) (nested_most P)))
    (unreferenced (length P.lookups))
  where
    unreferenced : (n : ℕ) → AtMost (n * 1) (concat_below (λ l. report_if (not (referenced P (lookup_at P.lookups l).name)) (lookup_warning 22 1 l 0 0)) n)
    unreferenced n = search (most_below, most_if)

lookup_names_most : (P : Pack) → AtMost (fields_of P.pgns_j1939 * 2 + entries_of P.lookups * 1) (check_lookup_names P)
unfolding check_lookup_names
lookup_names_most P = most_append _ _ _ _ (spn_names_most P.pgns_j1939) (lookup_sum 1 P.lookups lookup_names_of names_most)

spns_most : (P : Pack) → AtMost (fields_of (pgns_of P 0) * 1 + fields_of (pgns_of P 2) * 1 + fields_of (pgns_of P 1) * 1) (check_spns P)
unfolding check_spns
spns_most P =
    most_append _ _ _ _
    (most_append _ _ _ _ (tree_sum 1 (pgns_of P 0) (spns_elsewhere 0) (elsewhere_most 0)) (tree_sum 1 (pgns_of P 2) (spns_elsewhere 2) (elsewhere_most 2)))
    (tree_sum 1 (pgns_of P 1) (check_scalings (pgns_of P 1)) (scalings_most (pgns_of P 1)))

tree_continues_most : (P : Pack) (t : ℕ) → AtMost (fields_of (pgns_of P t) * 6) (check_tree_continues P t)
unfolding check_tree_continues
tree_continues_most P t = tree_sum 6 (pgns_of P t) (check_continues P.fieldtypes t) (pgn_continues_most P.fieldtypes t)

fieldtypes_most : (fts : List FieldType) → AtMost (length fts * 1) (check_fieldtypes fts)
unfolding check_fieldtypes
fieldtypes_most fts = search (most_below, fieldtype_most)

-- HOW MANY FINDINGS A PACK CAN HAVE
abbrev pub most_of_tree : List Pgn → ℕ
most_of_tree pgns = length pgns * (length pgns + 9) + places_of pgns * 3 + fields_of pgns * 22

unfoldable pub most_findings : Pack → ℕ
most_findings P =
    length P.fieldtypes + length P.lookups + entries_of P.lookups * 3
    + most_of_tree P.pgns + most_of_tree P.pgns_j1939 + most_of_tree P.pgns_quick

pub check_most : (P : Pack) → length (check P) ≤ most_findings P
unfolding check most_findings
check_most P =
    let c1 = most_append _ _ _ _ (fieldtypes_most P.fieldtypes) (wiring_most P) in
    let c2 = most_append _ _ _ _ c1 (lookup_names_most P) in
    let c3 = most_append _ _ _ _ c2 (most_sum _ _ (tree_most P) 3) in
    let c4 = most_append _ _ _ _ c3 (spns_most P) in
    let c5 = most_append _ _ _ _ c4 (most_sum _ _ (tree_continues_most P) 3) in
    omega (arith, c5.bound)
