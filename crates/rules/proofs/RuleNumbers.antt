-- Every finding of a rule's list bears the rule's number, so that `check`'s findings of a rule are those of its own definition.
use Rattle.std.specs.Prelude.{◌==◌, if◌then◌else◌}
use Prim.Native.Nat.{ℕ, zero, suc}
use mathlib.Core.Bool.{Bool, true, false, not}
use mathlib.Core.List.{List, [], ◌∷◌, ◌++◌, append-nil}
use Rattle.std.specs.Prelude.{Option, None, Some}
use mathlib.Core.Path.{◌≡◌, refl, ap, ◌∙◌}
use lib.ListN.{length}
use Rattle.pack.specs.Notation.{concat_below}
use Rattle.pack.specs.Value.{Bytes, FieldType, Lookup, Reference, Repeating, Field, Pgn, Pack, pgns_of, pgn_at, lookup_at}
use Rattle.rules.specs.declared.Finding.{Finding}
use Rattle.rules.specs.Findings.{report_if, lookup_warning, only}
use Rattle.rules.specs.SearchLaws.{concat_none}
use Rattle.rules.specs.Fieldtypes.{check_fieldtypes, fieldtype_at}
use Rattle.rules.specs.LookupWiring.{check_lookup_wiring, referenced, check_lookup_refs, lookup_ref_at, lookup_found_at, lookup_width_at}
use Rattle.rules.specs.LookupWiring.{check_nested_refs, fieldtype_entry_at, nested_lookup_at}
use Rattle.rules.specs.LookupNames.{check_lookup_names, lookup_names_of, same_name_as}
use Rattle.rules.specs.SpnNames.{check_spn_names, clash_of, clash_with, clash_at}
use Rattle.rules.specs.PgnRange.{check_pgn_range, quick_range, found_range, Range}
use Rattle.rules.specs.FrameLength.{check_frame_length}
use Rattle.rules.specs.Repeating.{check_repeating, check_set, set_bounds, set_count_field, set_nesting}
use Rattle.rules.specs.DynamicLength.{check_dynamic_length, dynamic_length_at}
use Rattle.rules.specs.Proprietary.{check_proprietary}
use Rattle.rules.specs.SpecialValues.{check_special_values, special_values_at}
use Rattle.rules.specs.FieldCount.{check_field_count}
use Rattle.rules.specs.ReservedIds.{check_reserved_ids, reserved_id_at}
use Rattle.rules.specs.MatchValues.{check_match_values, match_value_at, resolved_at}
use Rattle.rules.specs.FieldTypeOverrides.{check_field_type_overrides, overrides_at}
use Rattle.rules.specs.BitLengthField.{check_bit_length_field, bit_length_field_at, bit_length_target_at}
use Rattle.rules.specs.TrailingZero.{check_trailing_zero_is_digit, trailing_zero_at, trailing_zero_target_at}
use Rattle.rules.specs.MinLength.{check_min_length, min_length_at}
use Rattle.rules.specs.Variants.{check_variants, group_findings, variant_at, duplicate_of}
use Rattle.rules.specs.UniqueIds.{check_unique_ids, same_id_as, unique_field_ids}
use Rattle.rules.specs.Spns.{check_spns, spns_elsewhere, check_scalings, spn_at, unlike_first, unlike_field}
use Rattle.rules.specs.Continues.{check_continues, continues_at, continued_found_at, continued_at}
use Rattle.rules.specs.Check.{check, check_tree, check_tree_continues, check_pgn}

-- every finding of a list has the property
pub data Each (Q : Finding → Type 0) : List Finding → Type 0 where
  each_none : Each Q []
  each_more : (f : Finding) (fs : List Finding) → Q f → Each Q fs → Each Q (f ∷ fs)

module _ (Q : Finding → Type 0) where
  pub each_one : (f : Finding) → Q f → Each Q (f ∷ [])
  each_one f q = each_more f [] q each_none

  pub each_if : (b : Bool) (f : Finding) → Q f → Each Q (report_if b f)
  each_if true f q = each_one f q
  each_if false f q = each_none

  pub each_pick : (b : Bool) (xs ys : List Finding) → Each Q xs → Each Q ys → Each Q (if b then xs else ys)
  each_pick true xs ys h k = h
  each_pick false xs ys h k = k

  pub each_append : (xs ys : List Finding) → Each Q xs → Each Q ys → Each Q (xs ++ ys)
  each_append _ ys each_none k = k
  each_append _ ys (each_more f fs q h) k = each_more f (fs ++ ys) q (each_append fs ys h k)

  pub each_below : (g : ℕ → List Finding) → ((k : ℕ) → Each Q (g k)) → (n : ℕ) → Each Q (concat_below g n)
  each_below g h zero = each_none
  each_below g h (suc n) = each_append (concat_below g n) (g n) (each_below g h n) (h n)

ruleset Parts = (each_none, each_more, each_one, each_if, each_pick, each_append, each_below)

-- each bears the rule's number; for every rule it is shown of its list below
abbrev pub OfRule : (rule : ℕ) → List Finding → Type 0
OfRule rule = Each (λ f. f.rule ≡ rule)

-- R02
quick_range_own : (t i : ℕ) (p : Pgn) → OfRule 2 (quick_range t i p)
unfolding quick_range
quick_range_own t i p = search Parts

found_range_own : (t i : ℕ) (p : Pgn) (r : Option Range) → OfRule 2 (found_range t i p r)
unfolding found_range
found_range_own t i p None = search Parts
found_range_own t i p (Some r) = search Parts

pub pgn_range_own : (t i : ℕ) (p : Pgn) → OfRule 2 (check_pgn_range t i p)
unfolding check_pgn_range
pgn_range_own t i p = search (Parts, quick_range_own, found_range_own)

-- R04
pub frame_length_own : (t i : ℕ) (p : Pgn) → OfRule 4 (check_frame_length t i p)
unfolding check_frame_length
frame_length_own t i p = search Parts

-- R05
count_field_own : (t i n start : ℕ) (c : Option ℕ) → OfRule 5 (set_count_field t i n start c)
unfolding set_count_field
count_field_own t i n start None = search Parts
count_field_own t i n start (Some c) = search Parts

nesting_own : (t i n : ℕ) (outer : Option Repeating) (r : Repeating) → OfRule 5 (set_nesting t i n outer r)
unfolding set_nesting
nesting_own t i n None r = search Parts
nesting_own t i n (Some o) r = search Parts

set_own : (t i n fields : ℕ) (outer set : Option Repeating) → OfRule 5 (check_set t i n fields outer set)
unfolding check_set set_bounds
set_own t i n fields outer None = search Parts
set_own t i n fields outer (Some r) = search (Parts, count_field_own, nesting_own)

pub repeating_own : (t i : ℕ) (p : Pgn) → OfRule 5 (check_repeating t i p)
unfolding check_repeating
repeating_own t i p = search (Parts, set_own)

-- R06
pub dynamic_length_own : (fts : List FieldType) (t i : ℕ) (p : Pgn) → OfRule 6 (check_dynamic_length fts t i p)
unfolding check_dynamic_length dynamic_length_at
dynamic_length_own fts t i p = search Parts

-- R07
pub proprietary_own : (fts : List FieldType) (t i : ℕ) (p : Pgn) → OfRule 7 (check_proprietary fts t i p)
unfolding check_proprietary
proprietary_own fts t i p = search Parts

-- R08, 1 to 5
width_own : (t i k : ℕ) (f : Field) (l : ℕ) (lookup : Lookup) → OfRule 8 (lookup_width_at t i k f l lookup)
unfolding lookup_width_at
width_own t i k f l lookup = search Parts

found_own : (ls : List Lookup) (t i k : ℕ) (f : Field) (r : Reference) (l : Option ℕ) → OfRule 8 (lookup_found_at ls t i k f r l)
unfolding lookup_found_at
found_own ls t i k f r None = search Parts
found_own ls t i k f r (Some l) = search (Parts, width_own)

ref_own : (ls : List Lookup) (t i k : ℕ) (f : Field) (r : Option Reference) → OfRule 8 (lookup_ref_at ls t i k f r)
unfolding lookup_ref_at
ref_own ls t i k f None = search Parts
ref_own ls t i k f (Some r) = search (Parts, found_own)

pub lookup_refs_own : (ls : List Lookup) (t i : ℕ) (p : Pgn) → OfRule 8 (check_lookup_refs ls t i p)
unfolding check_lookup_refs
lookup_refs_own ls t i p = search (Parts, ref_own)

-- R08, 6 and 7
nested_lookup_own : (ls : List Lookup) (l e : ℕ) (name : Option Bytes) → OfRule 8 (nested_lookup_at ls l e name)
unfolding nested_lookup_at
nested_lookup_own ls l e None = search Parts
nested_lookup_own ls l e (Some name) = search Parts

pub nested_refs_own : (P : Pack) (l : ℕ) (lookup : Lookup) → OfRule 8 (check_nested_refs P l lookup)
unfolding check_nested_refs fieldtype_entry_at
nested_refs_own P l lookup = search (Parts, nested_lookup_own)

-- R22
pub unreferenced_own : (P : Pack) (l : ℕ) → OfRule 22 (report_if (not (referenced P (lookup_at P.lookups l).name)) (lookup_warning 22 1 l 0 0))
unreferenced_own P l = search Parts

-- R09
special_value_own : (t i k bits : ℕ) (value : Option ℕ) → OfRule 9 (special_values_at t i k bits value)
unfolding special_values_at
special_value_own t i k bits None = search Parts
special_value_own t i k bits (Some value) = search Parts

pub special_values_own : (t i : ℕ) (p : Pgn) → OfRule 9 (check_special_values t i p)
unfolding check_special_values
special_values_own t i p = search (Parts, special_value_own)

-- R11
pub field_count_own : (t i : ℕ) (p : Pgn) → OfRule 11 (check_field_count t i p)
unfolding check_field_count
field_count_own t i p = search Parts

-- R12
pub reserved_ids_own : (t i : ℕ) (p : Pgn) → OfRule 12 (check_reserved_ids t i p)
unfolding check_reserved_ids reserved_id_at
reserved_ids_own t i p = search Parts

-- R13
resolved_own : (t i k bits : ℕ) (value : Option ℕ) → OfRule 13 (resolved_at t i k bits value)
unfolding resolved_at
resolved_own t i k bits None = search Parts
resolved_own t i k bits (Some value) = search Parts

pub match_values_own : (ls : List Lookup) (t i : ℕ) (p : Pgn) → OfRule 13 (check_match_values ls t i p)
unfolding check_match_values match_value_at
match_values_own ls t i p = search (Parts, resolved_own)

-- R14
pub overrides_own : (fts : List FieldType) (t i : ℕ) (p : Pgn) → OfRule 14 (check_field_type_overrides fts t i p)
unfolding check_field_type_overrides overrides_at
overrides_own fts t i p = search Parts

-- R15
bit_target_own : (t i : ℕ) (p : Pgn) (k : ℕ) (j : Option ℕ) → OfRule 15 (bit_length_target_at t i p k j)
unfolding bit_length_target_at
bit_target_own t i p k None = search Parts
bit_target_own t i p k (Some j) = search Parts

bit_length_own : (t i : ℕ) (p : Pgn) (k : ℕ) (id : Option Bytes) → OfRule 15 (bit_length_field_at t i p k id)
unfolding bit_length_field_at
bit_length_own t i p k None = search Parts
bit_length_own t i p k (Some id) = search (Parts, bit_target_own)

pub bit_length_field_own : (t i : ℕ) (p : Pgn) → OfRule 15 (check_bit_length_field t i p)
unfolding check_bit_length_field
bit_length_field_own t i p = search (Parts, bit_length_own)

-- R16
least_own : (t i : ℕ) (p : Pgn) (m : Option ℕ) → OfRule 16 (min_length_at t i p m)
unfolding min_length_at
least_own t i p None = search Parts
least_own t i p (Some m) = search Parts

pub min_length_own : (t i : ℕ) (p : Pgn) → OfRule 16 (check_min_length t i p)
unfolding check_min_length
min_length_own t i p = search (Parts, least_own)

-- R20
duplicate_own : (t : ℕ) (pgns : List Pgn) (i : ℕ) (j : Option ℕ) → OfRule 20 (duplicate_of t pgns i j)
unfolding duplicate_of
duplicate_own t pgns i None = search Parts
duplicate_own t pgns i (Some j) = search Parts

group_own : (t : ℕ) (pgns : List Pgn) (number : Option ℕ) → OfRule 20 (group_findings t pgns number)
unfolding group_findings variant_at
group_own t pgns None = search Parts
group_own t pgns (Some number) = search (Parts, duplicate_own)

pub variants_own : (t : ℕ) (pgns : List Pgn) → OfRule 20 (check_variants t pgns)
unfolding check_variants
variants_own t pgns = search (Parts, group_own)

-- R21
same_id_own : (t i : ℕ) (j : Option ℕ) → OfRule 21 (same_id_as t i j)
unfolding same_id_as
same_id_own t i None = search Parts
same_id_own t i (Some j) = search Parts

pub unique_ids_own : (t : ℕ) (pgns : List Pgn) → OfRule 21 (check_unique_ids t pgns)
unfolding check_unique_ids unique_field_ids
unique_ids_own t pgns = search (Parts, same_id_own)

-- R23
pub fieldtypes_own : (fts : List FieldType) → OfRule 23 (check_fieldtypes fts)
unfolding check_fieldtypes fieldtype_at
fieldtypes_own fts = search Parts

-- R24
same_name_own : (l e : ℕ) (d : Option ℕ) → OfRule 24 (same_name_as l e d)
unfolding same_name_as
same_name_own l e None = search Parts
same_name_own l e (Some d) = search Parts

names_own : (l : ℕ) (lookup : Lookup) → OfRule 24 (lookup_names_of l lookup)
unfolding lookup_names_of
names_own l lookup = search (Parts, same_name_own)

clash_own : (pgns : List Pgn) (s : ℕ) (e : Option ℕ) → OfRule 24 (clash_with pgns s e)
unfolding clash_with clash_at
clash_own pgns s None = search Parts
clash_own pgns s (Some e) = search Parts

clash_of_own : (pgns : List Pgn) (s : Option ℕ) → OfRule 24 (clash_of pgns s)
clash_of_own pgns None = search Parts
clash_of_own pgns (Some s) = search (Parts, clash_own)

spn_names_own : (pgns : List Pgn) → OfRule 24 (check_spn_names pgns)
unfolding check_spn_names
spn_names_own pgns = search (Parts, clash_of_own)

pub lookup_names_own : (P : Pack) → OfRule 24 (check_lookup_names P)
unfolding check_lookup_names
lookup_names_own P = search (Parts, spn_names_own, names_own)

-- R42
unlike_own : (pgns : List Pgn) (i k j : ℕ) (h : Option ℕ) → OfRule 42 (unlike_field pgns i k j h)
unfolding unlike_field
unlike_own pgns i k j None = search Parts
unlike_own pgns i k j (Some h) = search Parts

first_own : (pgns : List Pgn) (i k s : ℕ) (j : Option ℕ) → OfRule 42 (unlike_first pgns i k s j)
unfolding unlike_first
first_own pgns i k s None = search Parts
first_own pgns i k s (Some j) = search (Parts, unlike_own)

spn_own : (pgns : List Pgn) (i k : ℕ) (s : Option ℕ) → OfRule 42 (spn_at pgns i k s)
unfolding spn_at
spn_own pgns i k None = search Parts
spn_own pgns i k (Some s) = search (Parts, first_own)

pub spns_own : (P : Pack) → OfRule 42 (check_spns P)
unfolding check_spns spns_elsewhere check_scalings
spns_own P = search (Parts, spn_own)

-- R43
continued_own : (fts : List FieldType) (t i : ℕ) (p : Pgn) (k : ℕ) (id : Bytes) (j : Option ℕ) → OfRule 43 (continued_found_at fts t i p k id j)
unfolding continued_found_at continued_at
continued_own fts t i p k id None = search Parts
continued_own fts t i p k id (Some j) = search Parts depth 9

continues_at_own : (fts : List FieldType) (t i : ℕ) (p : Pgn) (k : ℕ) (id : Option Bytes) → OfRule 43 (continues_at fts t i p k id)
unfolding continues_at
continues_at_own fts t i p k None = search Parts
continues_at_own fts t i p k (Some id) = search (Parts, continued_own)

pub continues_own : (fts : List FieldType) (t i : ℕ) (p : Pgn) → OfRule 43 (check_continues fts t i p)
unfolding check_continues
continues_own fts t i p = search (Parts, continues_at_own)

-- R44
target_own : (fts : List FieldType) (t i : ℕ) (p : Pgn) (k : ℕ) (j : Option ℕ) → OfRule 44 (trailing_zero_target_at fts t i p k j)
unfolding trailing_zero_target_at
target_own fts t i p k None = search Parts
target_own fts t i p k (Some j) = search Parts

digit_own : (fts : List FieldType) (t i : ℕ) (p : Pgn) (k : ℕ) (id : Option Bytes) → OfRule 44 (trailing_zero_at fts t i p k id)
unfolding trailing_zero_at
digit_own fts t i p k None = search Parts
digit_own fts t i p k (Some id) = search (Parts, target_own)

pub trailing_zero_own : (fts : List FieldType) (t i : ℕ) (p : Pgn) → OfRule 44 (check_trailing_zero_is_digit fts t i p)
unfolding check_trailing_zero_is_digit
trailing_zero_own fts t i p = search (Parts, digit_own)

-- ---- the findings of one rule, r, among those of all

-- a list of a rule's findings is kept whole, another rule's is left out
abbrev pub kept : (r rule : ℕ) → List Finding → List Finding
kept r rule fs = if rule == r then fs else []

-- own are those of fs that are of the rule
pub record Only (r : ℕ) (fs own : List Finding) : Type 0 where
  pub is : only r fs ≡ own

module _ (r : ℕ) where
  append_only : (xs ys : List Finding) → only r (xs ++ ys) ≡ only r xs ++ only r ys
  append_only [] ys = refl
  append_only (x ∷ xs) ys = go (x.rule == r) refl (append_only xs ys)
    where
      go : (b : Bool) → (x.rule == r) ≡ b → only r (xs ++ ys) ≡ only r xs ++ only r ys → only r (x ∷ xs ++ ys) ≡ only r (x ∷ xs) ++ only r ys
      go true e rec = rw (e, rec)
      go false e rec = rw (e, rec)

  pub only_append : (xs ys as' bs : List Finding) → Only r xs as' → Only r ys bs → Only r (xs ++ ys) (as' ++ bs)
  only_append xs ys as' bs h k = record { is = append_only xs ys ∙ rw (h.is, k.is) }

  pub only_below : (f g : ℕ → List Finding) → ((k : ℕ) → Only r (f k) (g k)) → (n : ℕ) → Only r (concat_below f n) (concat_below g n)
  only_below f g h zero = record { is = refl }
  only_below f g h (suc n) = only_append (concat_below f n) (f n) (concat_below g n) (g n) (only_below f g h n) (h n)

  only_kept : (rule : ℕ) (fs : List Finding) → OfRule rule fs → only r fs ≡ kept r rule fs
  only_kept rule _ each_none = go (rule == r)
    where
      go : (b : Bool) → ◌≡◌ {A = List Finding} [] (if b then [] else [])
      go true = refl
      go false = refl
  only_kept rule _ (each_more f fs q h) = go (rule == r) refl (only_kept rule fs h)
    where
      go : (b : Bool) → (rule == r) ≡ b → only r fs ≡ kept r rule fs → only r (f ∷ fs) ≡ kept r rule (f ∷ fs)
      go true e rec = let x : (f.rule == r) ≡ true = ap (λ (n : ℕ). n == r) q ∙ e in rw (x, e) (ap (λ (gs : List Finding). f ∷ gs) (rw e at rec))
      go false e rec = let x : (f.rule == r) ≡ false = ap (λ (n : ℕ). n == r) q ∙ e in rw (x, e) (rw e at rec)

  pub only_own : (rule : ℕ) (fs : List Finding) → OfRule rule fs → Only r fs (kept r rule fs)
  only_own rule fs h = record { is = only_kept rule fs h }

  ruleset Kept = (only_append, only_below, only_own)

  -- the rules' lists as check puts them together
  abbrev pub kept_of_wiring : Pack → List Finding
  kept_of_wiring P =
      concat_below (λ t. concat_below (λ i. kept r 8 (check_lookup_refs P.lookups t i (pgn_at P t i))) (length (pgns_of P t))) 3
      ++ concat_below (λ l. kept r 8 (check_nested_refs P l (lookup_at P.lookups l))) (length P.lookups)
      ++ concat_below (λ l. kept r 22 (report_if (not (referenced P (lookup_at P.lookups l).name)) (lookup_warning 22 1 l 0 0))) (length P.lookups)

  abbrev pub kept_of_pgn : Pack → (t i : ℕ) → Pgn → List Finding
  kept_of_pgn P t i p =
      kept r 2 (check_pgn_range t i p)
      ++ kept r 4 (check_frame_length t i p)
      ++ kept r 5 (check_repeating t i p)
      ++ kept r 6 (check_dynamic_length P.fieldtypes t i p)
      ++ kept r 7 (check_proprietary P.fieldtypes t i p)
      ++ kept r 9 (check_special_values t i p)
      ++ kept r 11 (check_field_count t i p)
      ++ kept r 12 (check_reserved_ids t i p)
      ++ kept r 13 (check_match_values P.lookups t i p)
      ++ kept r 14 (check_field_type_overrides P.fieldtypes t i p)
      ++ kept r 15 (check_bit_length_field t i p)
      ++ kept r 44 (check_trailing_zero_is_digit P.fieldtypes t i p)
      ++ kept r 16 (check_min_length t i p)

  abbrev pub kept_of_tree : Pack → (t : ℕ) → List Finding
  kept_of_tree P t =
      concat_below (λ i. kept_of_pgn P t i (pgn_at P t i)) (length (pgns_of P t))
      ++ kept r 20 (check_variants t (pgns_of P t))
      ++ kept r 21 (check_unique_ids t (pgns_of P t))

  abbrev pub kept_of_check : Pack → List Finding
  kept_of_check P =
      kept r 23 (check_fieldtypes P.fieldtypes)
      ++ kept_of_wiring P
      ++ kept r 24 (check_lookup_names P)
      ++ concat_below (kept_of_tree P) 3
      ++ kept r 42 (check_spns P)
      ++ concat_below (λ t. concat_below (λ i. kept r 43 (check_continues P.fieldtypes t i (pgn_at P t i))) (length (pgns_of P t))) 3

  only_wiring : (P : Pack) → Only r (check_lookup_wiring P) (kept_of_wiring P)
  unfolding check_lookup_wiring
  only_wiring P = search (Kept, lookup_refs_own, nested_refs_own, unreferenced_own) depth 8

  only_pgn : (P : Pack) (t i : ℕ) (p : Pgn) → Only r (check_pgn P t i p) (kept_of_pgn P t i p)
  unfolding check_pgn
  only_pgn P t i p =
      search (
        Kept,
        pgn_range_own,
        frame_length_own,
        repeating_own,
        dynamic_length_own,
        proprietary_own,
        special_values_own,
        field_count_own,
        reserved_ids_own,
        match_values_own,
        overrides_own,
        bit_length_field_own,
        trailing_zero_own,
        min_length_own,
      )
      depth 20

  only_tree : (P : Pack) (t : ℕ) → Only r (check_tree P t) (kept_of_tree P t)
  unfolding check_tree
  only_tree P t = search (Kept, only_pgn, variants_own, unique_ids_own)

  only_continues : (P : Pack) (t : ℕ)
      → Only r (check_tree_continues P t)
      (concat_below (λ i. kept r 43 (check_continues P.fieldtypes t i (pgn_at P t i))) (length (pgns_of P t)))
  unfolding check_tree_continues
  only_continues P t = search (Kept, continues_own)

  -- OF ALL THAT CHECK REPORTS
  pub only_check : (P : Pack) → Only r (check P) (kept_of_check P)
  unfolding check
  only_check P = search (Kept, fieldtypes_own, only_wiring, lookup_names_own, only_tree, spns_own, only_continues) depth 12

pub nothing_below : (n : ℕ) → concat_below {A = Finding} (λ k. []) n ≡ []
nothing_below n = concat_none (λ k. []) n (λ k h. refl)

-- At a number the other rules' lists compute to nothing. For R42:
pub only_spns : (P : Pack) → only 42 (check P) ≡ check_spns P
only_spns P = (only_check 42 P).is ∙ simp (nothing_below, append-nil)
