-- A report without one error: neither has any of its parts, which are named here one by one.
use Rattle.std.specs.Prelude.{ℕ, zero, suc, ◌+◌, ◌<◌, Bool, true, false, not, ◌&&◌, List, [], ◌∷◌, ◌++◌, ◌≡◌, refl, length, ◌==◌, if◌then◌else◌}
use Rattle.std.proofs.Common.{arith}
use Rattle.std.proofs.Math.Decide.{ℕ_discrete}
use Rattle.std.proofs.lemmas.Bool.{false≢true}
use Rattle.pack.specs.Notation.{concat_below}
use Rattle.pack.specs.Value.{Pack, pgns_of, pgn_at, lookup_at}
use Rattle.rules.specs.declared.Finding.{Finding}
use Rattle.rules.specs.Check.{check, check_tree, check_tree_continues, check_pgn}
use Rattle.rules.specs.Findings.{errors, without_error, report_if, lookup_warning}
use Rattle.rules.specs.Fieldtypes.{check_fieldtypes}
use Rattle.rules.specs.LookupWiring.{check_lookup_wiring, check_lookup_refs, check_nested_refs, referenced}
use Rattle.rules.specs.LookupNames.{check_lookup_names}
use Rattle.rules.specs.PgnRange.{check_pgn_range}
use Rattle.rules.specs.FrameLength.{check_frame_length}
use Rattle.rules.specs.Repeating.{check_repeating}
use Rattle.rules.specs.DynamicLength.{check_dynamic_length}
use Rattle.rules.specs.Proprietary.{check_proprietary}
use Rattle.rules.specs.SpecialValues.{check_special_values}
use Rattle.rules.specs.FieldCount.{check_field_count}
use Rattle.rules.specs.ReservedIds.{check_reserved_ids}
use Rattle.rules.specs.MatchValues.{check_match_values}
use Rattle.rules.specs.FieldTypeOverrides.{check_field_type_overrides}
use Rattle.rules.specs.BitLengthField.{check_bit_length_field}
use Rattle.rules.specs.TrailingZero.{check_trailing_zero_is_digit}
use Rattle.rules.specs.MinLength.{check_min_length}
use Rattle.rules.specs.Variants.{check_variants}
use Rattle.rules.specs.UniqueIds.{check_unique_ids}
use Rattle.rules.specs.Spns.{check_spns}
use Rattle.rules.specs.Continues.{check_continues}

abbrev pub Clean : List Finding → Type 0
Clean fs = without_error fs ≡ true

-- it is to have 0 errors
pub clean_errors : (fs : List Finding) → Clean fs → errors fs ≡ 0
clean_errors [] c = refl
clean_errors (f ∷ fs) c = go (f.severity == 1) refl c (clean_errors fs)
  where
    go : (b : Bool) → (f.severity == 1) ≡ b → (not b && without_error fs) ≡ true → (Clean fs → errors fs ≡ 0) → errors (f ∷ fs) ≡ 0
    go true e h rec = absurd (false≢true h)
    go false e h rec = rw e (rec h)

pub errors_clean : (fs : List Finding) → errors fs ≡ 0 → Clean fs
errors_clean [] e = refl
errors_clean (f ∷ fs) e = go (f.severity == 1) refl e (errors_clean fs)
  where
    go : (b : Bool) → (f.severity == 1) ≡ b → (if b then errors fs + 1 else errors fs) ≡ 0 → (errors fs ≡ 0 → Clean fs) → Clean (f ∷ fs)
    go true q h rec = absurd (omega arith)
    go false q h rec = rw q (rec h)

pub clean_left : (xs ys : List Finding) → Clean (xs ++ ys) → Clean xs
clean_left [] ys c = refl
clean_left (x ∷ xs) ys c = go (not (x.severity == 1)) refl c (clean_left xs ys)
  where
    go : (b : Bool) → not (x.severity == 1) ≡ b → (b && without_error (xs ++ ys)) ≡ true → (Clean (xs ++ ys) → Clean xs) → Clean (x ∷ xs)
    go true e h rec = rw e (rec h)
    go false e h rec = absurd (false≢true h)

pub clean_right : (xs ys : List Finding) → Clean (xs ++ ys) → Clean ys
clean_right [] ys c = c
clean_right (x ∷ xs) ys c = go (not (x.severity == 1)) c (clean_right xs ys)
  where
    go : (b : Bool) → (b && without_error (xs ++ ys)) ≡ true → (Clean (xs ++ ys) → Clean ys) → Clean ys
    go true h rec = rec h
    go false h rec = absurd (false≢true h)

pub clean_below : (f : ℕ → List Finding) (n : ℕ) → Clean (concat_below f n) → (k : ℕ) → k < n → Clean (f k)
clean_below f zero c k h = absurd (omega arith)
clean_below f (suc n) c k h = go (ℕ_discrete k n) (clean_below f n (clean_left (concat_below f n) (f n) c) k)
  where
    go : Dec (k ≡ n) → (k < n → Clean (f k)) → Clean (f k)
    go (yes e) rec = rw e (clean_right (concat_below f n) (f n) c)
    go (no e) rec = rec (omega arith)

-- lists put together one after the other, and each of them clean
abbrev pub in_turn : List Finding → List (List Finding) → List Finding
in_turn fs [] = fs
in_turn fs (gs ∷ rest) = in_turn (fs ++ gs) rest

abbrev pub AllClean : List (List Finding) → Type 0
AllClean [] = Unit {0}
AllClean (fs ∷ rest) = Clean fs × AllClean rest

pub clean_in_turn : (fs : List Finding) (rest : List (List Finding)) → Clean (in_turn fs rest) → AllClean (fs ∷ rest)
clean_in_turn fs [] c = (c, tt)
clean_in_turn fs (gs ∷ rest) c =
    let r = clean_in_turn (fs ++ gs) rest c in
    (clean_left fs gs r.0, (clean_right fs gs r.0, r.1))

-- an error that is not reported
pub clean_if : (b : Bool) (f : Finding) → f.severity ≡ 1 → Clean (report_if b f) → b ≡ false
clean_if false f s c = refl
clean_if true f s c = absurd (false≢true (rw s at c))

-- the rules that look at one PGN
pub record CleanPgn (P : Pack) (t i : ℕ) : Type 0 where
  pub pgn_range : Clean (check_pgn_range t i (pgn_at P t i))
  pub frame_length : Clean (check_frame_length t i (pgn_at P t i))
  pub repeating : Clean (check_repeating t i (pgn_at P t i))
  pub dynamic_length : Clean (check_dynamic_length P.fieldtypes t i (pgn_at P t i))
  pub proprietary : Clean (check_proprietary P.fieldtypes t i (pgn_at P t i))
  pub special_values : Clean (check_special_values t i (pgn_at P t i))
  pub field_count : Clean (check_field_count t i (pgn_at P t i))
  pub reserved_ids : Clean (check_reserved_ids t i (pgn_at P t i))
  pub match_values : Clean (check_match_values P.lookups t i (pgn_at P t i))
  pub field_type_overrides : Clean (check_field_type_overrides P.fieldtypes t i (pgn_at P t i))
  pub bit_length_field : Clean (check_bit_length_field t i (pgn_at P t i))
  pub trailing_zero_is_digit : Clean (check_trailing_zero_is_digit P.fieldtypes t i (pgn_at P t i))
  pub min_length : Clean (check_min_length t i (pgn_at P t i))

of_pgn : (P : Pack) (t i : ℕ) → Clean (check_pgn P t i (pgn_at P t i)) → CleanPgn P t i
unfolding check_pgn
of_pgn P t i c =
    let p = pgn_at P t i in
    let a =
    clean_in_turn (check_pgn_range t i p)
    (check_frame_length t i p
    ∷ check_repeating t i p
    ∷ check_dynamic_length P.fieldtypes t i p
    ∷ check_proprietary P.fieldtypes t i p
    ∷ check_special_values t i p
    ∷ check_field_count t i p
    ∷ check_reserved_ids t i p
    ∷ check_match_values P.lookups t i p
    ∷ check_field_type_overrides P.fieldtypes t i p
    ∷ check_bit_length_field t i p
    ∷ check_trailing_zero_is_digit P.fieldtypes t i p
    ∷ check_min_length t i p
    ∷ [])
    c in
    record {
      pgn_range = a.0;
      frame_length = a.1.0;
      repeating = a.1.1.0;
      dynamic_length = a.1.1.1.0;
      proprietary = a.1.1.1.1.0;
      special_values = a.1.1.1.1.1.0;
      field_count = a.1.1.1.1.1.1.0;
      reserved_ids = a.1.1.1.1.1.1.1.0;
      match_values = a.1.1.1.1.1.1.1.1.0;
      field_type_overrides = a.1.1.1.1.1.1.1.1.1.0;
      bit_length_field = a.1.1.1.1.1.1.1.1.1.1.0;
      trailing_zero_is_digit = a.1.1.1.1.1.1.1.1.1.1.1.0;
      min_length = a.1.1.1.1.1.1.1.1.1.1.1.1.0;
    }

-- A CHECK WITHOUT ONE ERROR, rule by rule
module _ (P : Pack) (c : Clean (check P)) where
  abbrev after_fieldtypes : List (List Finding)
  after_fieldtypes =
      check_lookup_wiring P
      ∷ check_lookup_names P
      ∷ concat_below (check_tree P) 3
      ∷ check_spns P
      ∷ concat_below (check_tree_continues P) 3
      ∷ []

  parts : AllClean (check_fieldtypes P.fieldtypes ∷ after_fieldtypes)
  unfolding check
  parts = clean_in_turn (check_fieldtypes P.fieldtypes) after_fieldtypes c

  -- R23
  pub clean_fieldtypes : Clean (check_fieldtypes P.fieldtypes)
  clean_fieldtypes = parts.0

  abbrev refs : ℕ → List Finding
  refs t = concat_below (λ i. check_lookup_refs P.lookups t i (pgn_at P t i)) (length (pgns_of P t))

  abbrev nested : ℕ → List Finding
  nested l = check_nested_refs P l (lookup_at P.lookups l)

  abbrev unreferenced : ℕ → List Finding
  unreferenced l = report_if (not (referenced P (lookup_at P.lookups l).name)) (lookup_warning 22 1 l 0 0)

  wiring : AllClean (concat_below refs 3 ∷ concat_below nested (length P.lookups) ∷ concat_below unreferenced (length P.lookups) ∷ [])
  unfolding check_lookup_wiring
  wiring =
      clean_in_turn (concat_below refs 3)
      (concat_below nested (length P.lookups) ∷ concat_below unreferenced (length P.lookups) ∷ []) parts.1.0

  -- R08, 1 to 5
  pub clean_lookup_refs : (t i : ℕ) → t < 3 → i < length (pgns_of P t) → Clean (check_lookup_refs P.lookups t i (pgn_at P t i))
  clean_lookup_refs t i ht hi =
      clean_below (λ i. check_lookup_refs P.lookups t i (pgn_at P t i)) (length (pgns_of P t)) (clean_below refs 3 wiring.0 t ht) i hi

  -- R08, 6 and 7
  pub clean_nested_refs : (l : ℕ) → l < length P.lookups → Clean (check_nested_refs P l (lookup_at P.lookups l))
  clean_nested_refs l hl = clean_below nested (length P.lookups) wiring.1.0 l hl

  -- R24
  pub clean_lookup_names : Clean (check_lookup_names P)
  clean_lookup_names = parts.1.1.0

  abbrev pgn_rules : (t i : ℕ) → List Finding
  pgn_rules t i = check_pgn P t i (pgn_at P t i)

  tree : (t : ℕ) → t < 3
      → AllClean (concat_below (pgn_rules t) (length (pgns_of P t)) ∷ check_variants t (pgns_of P t) ∷ check_unique_ids t (pgns_of P t) ∷ [])
  unfolding check_tree
  tree t ht =
      clean_in_turn (concat_below (pgn_rules t) (length (pgns_of P t))) (check_variants t (pgns_of P t) ∷ check_unique_ids t (pgns_of P t) ∷ [])
      (clean_below (check_tree P) 3 parts.1.1.1.0 t ht)

  -- R02, R04 to R07, R09, R11 to R16, R44
  pub clean_pgn : (t i : ℕ) → t < 3 → i < length (pgns_of P t) → CleanPgn P t i
  clean_pgn t i ht hi = of_pgn P t i (clean_below (pgn_rules t) (length (pgns_of P t)) (tree t ht).0 i hi)

  -- R20
  pub clean_variants : (t : ℕ) → t < 3 → Clean (check_variants t (pgns_of P t))
  clean_variants t ht = (tree t ht).1.0

  -- R21
  pub clean_unique_ids : (t : ℕ) → t < 3 → Clean (check_unique_ids t (pgns_of P t))
  clean_unique_ids t ht = (tree t ht).1.1.0

  -- R42
  pub clean_spns : Clean (check_spns P)
  clean_spns = parts.1.1.1.1.0

  -- R43
  pub clean_continues : (t i : ℕ) → t < 3 → i < length (pgns_of P t) → Clean (check_continues P.fieldtypes t i (pgn_at P t i))
  unfolding check_tree_continues
  clean_continues t i ht hi =
      clean_below (λ i. check_continues P.fieldtypes t i (pgn_at P t i)) (length (pgns_of P t))
      (clean_below (check_tree_continues P) 3 parts.1.1.1.1.1.0 t ht) i hi
