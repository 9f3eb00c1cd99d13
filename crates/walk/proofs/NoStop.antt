-- The guarantee against stops: the rules that are silent and what is held make the PGN's layout sound, so that its walk never stops.
use Prim.Native.Nat.{ℕ, suc, ◌<◌}
use native.Mathlib.Omega.{arith}
use mathlib.Core.Path.{◌≡◌, refl}
use mathlib.Core.Bool.{Bool, true, false, ◌&&◌}
use mathlib.Core.List.{List}
use Rattle.std.specs.Prelude.{None, Some}
use lib.ListN.{length}
use borrow.Author.Tests.{lt-ltb}
use Rattle.pack.specs.Value.{Bytes, Pgn, Pack, pgns_of, pgn_at, field_at}
use Rattle.rules.specs.SearchLaws.{any_hit}
use Rattle.rules.specs.Search.{any_below, every_below}
use Rattle.rules.specs.Model.{lookup_ref, target}
use Rattle.rules.specs.DynamicLength.{length_source}
use Rattle.rules.specs.LookupWiring.{check_lookup_refs}
use Rattle.rules.specs.MatchValues.{check_match_values}
use Rattle.rules.specs.BitLengthField.{check_bit_length_field}
use Rattle.rules.specs.Continues.{check_continues}
use Rattle.rules.specs.TrailingZero.{check_trailing_zero_is_digit}
use Rattle.rules.specs.Findings.{without_error}
use Rattle.rules.specs.Check.{check}
use Rattle.rules.specs.Clean.{Clean, clean_below, clean_pgn, clean_lookup_refs, clean_nested_refs, clean_continues}
use Rattle.walk.specs.Layout.{layout, sets_hold, stop_1}
use Rattle.walk.specs.Stops.{is_dynamic_value, lacks_length, stop_at}
use Rattle.walk.specs.Walk.{End, whole, used_up, stop, Answer, by_visits, walk}
use Rattle.walk.specs.ByPlace.{placed}
use Rattle.walk.specs.Held.{shares_held, bit_length_held, dynamic_value_held}
use Rattle.walk.specs.HeldReadings.{widest_count_fields_held, held_widest}
use Rattle.walk.specs.Guarantee.{Unstopped, ends_whole, ends_used_up, Guarantee, Quiet}
use Rattle.walk.proofs.Tests.{and_l, and_r, and_i, and_not, imp_e, every_e, any_e, and_4}
use Rattle.walk.proofs.SetFacts.{Holds, good}
use Rattle.walk.proofs.HeldSets.{Fits, past_stop_1, counts_placed}
use Rattle.walk.proofs.HeldWidest.{held_implies_widest}
use Rattle.walk.proofs.Never.{Counted, walk_counted, Runs, Sound, never}
use Rattle.walk.proofs.CleanSets.{sets_fit}
use Rattle.walk.proofs.CleanFields.{no_stop_3, no_stop_4, no_stop_5, no_stop_6, no_stop_7, no_stop_9}

pub quiet : (P : Pack) (t i : ℕ) → t < 3 → i < length (pgns_of P t) → Clean (check P) → Quiet P t i (pgn_at P t i)
quiet P t i l m e =
    let c = clean_pgn P e t i l m in
    record {
      repeating = c.repeating;
      lookup_refs = clean_lookup_refs P e t i l m;
      nested_refs = clean_nested_refs P e;
      match_values = c.match_values;
      bit_length_field = c.bit_length_field;
      continues = clean_continues P e t i l m;
      trailing_zero = c.trailing_zero_is_digit;
    }

module _ (P : Pack) (t i : ℕ) (p : Pgn) (q : Quiet P t i p) (h : held_widest P p ≡ true) where
  held_4 : (shares_held (layout p) ≡ true) × (widest_count_fields_held (layout p) ≡ true)
      × (every_below (λ k. bit_length_held p k) (length p.fields) ≡ true) × (every_below (λ k. dynamic_value_held P p k) (length p.fields) ≡ true)
  unfolding held_widest
  held_4 = and_4 (shares_held (layout p)) (widest_count_fields_held (layout p)) _ _ h

  fit : (k o : ℕ) → Holds (layout p) k o → Fits (layout p) k
  fit = sets_fit t i p q.repeating

  laid : stop_1 (layout p) ≡ false
  laid = past_stop_1 (layout p) fit held_4.0

  -- stop 6's target is held
  bits_held : (k : ℕ) → k < length p.fields → (id : Bytes) (j : ℕ) → (field_at p k).bit_length_field ≡ Some id → target p id ≡ Some j
      → sets_hold (layout p) (suc j) (suc k) ≡ true
  unfolding bit_length_held
  bits_held k l id j a b = let e = every_e (λ k. bit_length_held p k) (length p.fields) held_4.2 k l in rw (bit_length_held, a, b) at e

  -- STOP 8, by what is held
  no_stop_8 : (k : ℕ) → k < length p.fields → lacks_length P p (placed (layout p) (suc k)) k ≡ false
  unfolding lacks_length dynamic_value_held placed
  no_stop_8 k l = and_not (is_dynamic_value P (field_at p k)) (any_below current_source k) (λ v.
      let s = any_e _ k (imp_e (is_dynamic_value P (field_at p k)) _ (every_e (λ k. dynamic_value_held P p k) (length p.fields) held_4.3 k l) v) in
      let source = length_source P.fieldtypes (field_at p s.at) in
      any_hit current_source k s.at s.low
      (and_i source _ (and_l source _ s.has) (and_i _ _ (lt-ltb (suc s.at) (suc k) (omega (arith, s.low))) (and_r source _ s.has))))
    where
      current_source : ℕ → Bool
      current_source j = length_source P.fieldtypes (field_at p j) && placed (layout p) (suc k) j

  no_stop_at : (k r : ℕ) → k < length p.fields → stop_at P p (placed (layout p) (suc k)) k r ≡ None
  unfolding stop_at check_lookup_refs check_match_values check_bit_length_field check_continues check_trailing_zero_is_digit
  no_stop_at k r l =
      let n = length p.fields in
      rw (
        no_stop_3 P t i k (field_at p k) (clean_below _ n q.lookup_refs k l),
        no_stop_4 P t i p k (clean_below _ n q.match_values k l),
        no_stop_5 P q.nested_refs (lookup_ref (field_at p k)) r,
        no_stop_6 p t i k (field_at p k).bit_length_field (clean_below _ n q.bit_length_field k l) (bits_held k l),
        no_stop_7 p (good (layout p) laid) P t i k l (field_at p k).continues (clean_below _ n q.continues k l),
        no_stop_8 k l,
        no_stop_9 p P t i k (field_at p k).trailing_zero (clean_below _ n q.trailing_zero k l),
        stop_at,
      )

  pub sound : Sound (layout p) (stop_at P p)
  sound = record { laid = laid; fields = no_stop_at; counts = counts_placed (layout p) fit held_4.0 held_4.1 }

unstopped : (a : Answer) (n : ℕ) → Runs a.ends → Counted a n → Unstopped a n
unstopped a n r c = go a.ends refl r
  where
    go : (x : End) → a.ends ≡ x → Runs x → Unstopped a n
    go whole q r = ends_whole q c.at_most
    go used_up q r = ends_used_up q (c.exact q)
    go (stop k) q r = absurd r

-- by the rules that matter
pub guarantee_by : (P : Pack) (t i : ℕ) (p : Pgn) → Quiet P t i p → held_widest P p ≡ true
    → (readings : List ℕ) → Unstopped (walk P p readings) (length readings)
unfolding walk
guarantee_by P t i p q h readings =
    unstopped _ _ (never (layout p) (stop_at P p) (sound P t i p q h) readings) (walk_counted (layout p) (by_visits (layout p)) (stop_at P p) readings)

-- under the widest reading of what is held
pub guarantee_widest : (P : Pack) (t i : ℕ) → t < 3 → i < length (pgns_of P t) → without_error (check P) ≡ true → held_widest P (pgn_at P t i) ≡ true
    → (readings : List ℕ) → Unstopped (walk P (pgn_at P t i) readings) (length readings)
guarantee_widest P t i l m e h = guarantee_by P t i (pgn_at P t i) (quiet P t i l m e) h

-- THE GUARANTEE
pub guarantee : Guarantee
guarantee P t i l m e h = guarantee_widest P t i l m e (held_implies_widest P (pgn_at P t i) h)
