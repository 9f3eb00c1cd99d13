-- The stops 3 to 9 as code asks for them, part by part.
use Rattle.std.specs.Option.{option_map}
use Rattle.std.specs.Prelude.{if◌then◌else◌, is_some}
use Prim.Native.Nat.{ℕ, zero, suc, ◌+◌, ◌-◌, ◌^◌, ◌<◌}
use native.Mathlib.Omega.{arith}
use mathlib.Core.Path.{◌≡◌, refl, sym, ap, ◌∙◌}
use mathlib.Core.Bool.{Bool, true, false, not, ◌&&◌, false≢true}
use mathlib.Core.List.{List}
use Rattle.std.specs.Prelude.{Option, None, Some}
use lib.ListN.{length}
use lib.Dec.{ltb}
use lib.Pow.{pow_pos}
use borrow.Author.Tests.{ltb-true, ltb-false, lt-ltb, le-ltb, le-leb, lt-leb}
use Rattle.pack.specs.Notation.{◌<ᵇ◌, ◌≤ᵇ◌, ◌≐◌}
use Rattle.pack.specs.Value.{Bytes, Reference, Field, Pgn, Pack, field_at}
use Rattle.pack.specs.Meaning.{pack_of}
use Rattle.pack.specs.declared.loaded.LookupRef.{LookupRef}
use Rattle.pack.specs.declared.protocol.FieldIndex.{FieldIndex}
use Rattle.std.specs.Option.{option_or}
use Rattle.rules.specs.Search.{any_below}
use Rattle.rules.specs.SearchLaws.{any_hit, first_is}
use Rattle.rules.specs.Model.{lookup_ref, find_lookup, target}
use Rattle.rules.specs.DynamicLength.{length_source}
use Rattle.rules.proofs.OptionMaps.{is_some_map}
use Rattle.walk.specs.Layout.{Layout, layout, sets_hold}
use Rattle.walk.specs.ByPlace.{placed}
use Rattle.walk.specs.Held.{dynamic_value_held}
use Rattle.walk.specs.Stops.{is_missing, lookup_missing, unfit, match_unfit, reference_names_missing, is_dynamic_value, lacks_length, stop_at}
use Rattle.walk.specs.StopParts.{Named, IsSource, field_stop, need_stop, entry_missing, holds_also}
use Rattle.walk.specs.declared.stops.Stop.{Stop}
use Rattle.walk.specs.declared.stops.Stop.TheVariants.{LookupMissing, MatchUnfit, EntryNamesMissing}
use Rattle.walk.proofs.Tests.{and_i}

-- ---- the whole

joined : (a b : Bool) (x : Option Stop) → (if a then Some LookupMissing else (if b then Some MatchUnfit else x))
    ≡ option_or (if a then Some LookupMissing else (if b then Some MatchUnfit else None)) x
joined true b x = refl
joined false true x = refl
joined false false x = refl

module _ (P : Pack) (p : Pgn) (current : ℕ → Bool) (i reading : ℕ) where
  abbrev rest : Option Stop
  rest = if reference_names_missing P (lookup_ref (field_at p i)) reading then Some EntryNamesMissing else need_stop P p current i

  parts : stop_at P p current i reading ≡ option_or (field_stop P (field_at p i)) rest
  unfolding stop_at field_stop need_stop
  parts = joined (lookup_missing P (field_at p i)) (match_unfit P (field_at p i)) rest

  module _ (F : Field) (is : F ≡ field_at p i) where
    pub by_field : (n : Stop) → Some n ≡ field_stop P F → Some n ≡ stop_at P p current i reading
    by_field n e = rw (parts, ← is, ← e)

    module _ (free : None ≡ field_stop P F) where
      pub by_reading_only : None ≡ need_stop P p current i
          → stop_at P p current i reading ≡ (if reference_names_missing P (lookup_ref (field_at p i)) reading then Some EntryNamesMissing else None)
      by_reading_only y = rw (parts, ← is, ← free, ← y)

      module _ (b : Bool) (h : b ≡ reference_names_missing P (lookup_ref F) reading) where
        pub by_reading : b ≡ true → Some EntryNamesMissing ≡ stop_at P p current i reading
        by_reading x = rw (parts, ← is, ← free, ← h, x)

        pub by_need : b ≡ false → (o : Option Stop) → o ≡ need_stop P p current i → o ≡ stop_at P p current i reading
        by_need x o y = rw (parts, ← is, ← free, ← h, x) y

pub named_field : {s : List ℕ} {l : Option LookupRef} (F G : Field) → F ≡ G → Named s (lookup_ref F) l → Named s (lookup_ref G) l
named_field F G e N = rw (← e) N

-- 5, by the fieldtype lookup that the reference names
pub named_reading : {s : List ℕ} {r : Option Reference} {l : Option LookupRef} → Named s r l → (reading : ℕ) (b : Bool)
    → b ≡ entry_missing (pack_of s) l reading → b ≡ reference_names_missing (pack_of s) r reading
named_reading N reading b e = e ∙ sym (N.decide reading)

-- ---- 3 and 4

pub missing_is : (P : Pack) (name : Bytes) (l : Option LookupRef) → option_map (λ v. v.item) l ≡ find_lookup P.lookups name
    → is_missing P (Some name) ≡ not (is_some l)
unfolding is_missing
missing_is P name l e = rw (← e, is_some_map (λ (v : LookupRef). v.item) l)

less_one : (a b : ℕ) → 0 < a → (a - 1 <ᵇ b) ≡ (a ≤ᵇ b)
less_one a b h = go (ltb b a) refl
  where
    go : (t : Bool) → ltb b a ≡ t → (a - 1 <ᵇ b) ≡ (a ≤ᵇ b)
    go true e = rw (le-ltb (a - 1) b (omega (arith, ltb-true b a e)), lt-leb a b (ltb-true b a e))
    go false e = rw (lt-ltb (a - 1) b (omega (arith, ltb-false b a e)), le-leb a b (ltb-false b a e))

-- the match's value, unfit by the test of the code
pub unfit_is : (bits v : ℕ) → unfit bits (Some v) ≡ ((bits <ᵇ 64) && (2 ^ bits ≤ᵇ v))
unfolding unfit
unfit_is bits v = rw (less_one (2 ^ bits) v (pow_pos bits))

-- ---- 6, 7 and 9

pub target_below : (p : Pgn) (id : Bytes) (t : ℕ) → target p id ≡ Some t → t < length p.fields
unfolding target
target_below p id t e = (first_is (λ k. (field_at p k).id ≐ id) (length p.fields) t e).0

-- ---- 8

pub any_same : (f g : ℕ → Bool) (n : ℕ) → ((k : ℕ) → k < n → f k ≡ g k) → any_below f n ≡ any_below g n
any_same f g zero h = refl
any_same f g (suc n) h = rw (any_same f g n (λ k l. h k (omega arith)), h n (omega arith))

-- whether field j is a length source whose sets hold field k
abbrev pub gives : Pack → Pgn → Layout → ℕ → ℕ → Bool
gives P p L k j = length_source P.fieldtypes (field_at p j) && sets_hold L (suc j) (suc k)

module _ (P : Pack) (p : Pgn) (L : Layout) (k : ℕ) where
  before_place : (j : ℕ) → j < k → placed L (suc k) j ≡ sets_hold L (suc j) (suc k)
  unfolding placed
  before_place j h = rw (lt-ltb (suc j) (suc k) (omega arith))

  pub given_length : any_below (λ j. length_source P.fieldtypes (field_at p j) && placed L (suc k) j) k ≡ any_below (gives P p L k) k
  given_length = any_same _ _ k (λ j h. ap (λ (b : Bool). length_source P.fieldtypes (field_at p j) && b) (before_place j h))

  module _ (b : Bool) (e : b ≡ is_dynamic_value P (field_at p k)) where
    pub a_value : b ≡ true → (g : Bool) → g ≡ any_below (gives P p L k) k → lacks_length P p (placed L (suc k)) k ≡ not g
    unfolding lacks_length
    a_value h g y = rw (← e, h, given_length, ← y)

-- what is held, by the same two tests
module _ (P : Pack) (p : Pgn) (k : ℕ) (b : Bool) (e : b ≡ is_dynamic_value P (field_at p k)) where
  pub no_value_held : b ≡ false → true ≡ dynamic_value_held P p k
  unfolding dynamic_value_held
  no_value_held h = rw (← e, h)

  pub a_value_held : b ≡ true → (g : Bool) → g ≡ any_below (gives P p (layout p) k) k → g ≡ dynamic_value_held P p k
  unfolding dynamic_value_held
  a_value_held h g y = rw (← e, h) y

module _ {P : Pack} {p : Pgn} {k : ℕ} where
  pub source_later : (v : Option FieldIndex) → IsSource P p k v → IsSource P p (k + 1) v
  source_later None S = record { before = tt; source = tt }
  source_later (Some g) S = record { before = omega (arith, S.before); source = S.source }

  -- it gives field k a length if its sets hold it
  pub still_given : (v : Option FieldIndex) → IsSource P p k v → (L : Layout) → holds_also L v k ≡ true → is_some v ≡ any_below (gives P p L k) k
  still_given None S L h = absurd (false≢true h)
  still_given (Some g) S L h =
      sym (any_hit (gives P p L k) k g.0 S.before (and_i (length_source P.fieldtypes (field_at p g.0)) (sets_hold L (suc g.0) (suc k)) S.source h))
