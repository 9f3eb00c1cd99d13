-- The definitions of the sets of a layout, said of their values. Sets past the last are empty, so that a loop may go up to four.
use Prim.Native.Nat.{ℕ, zero, suc, ◌+◌, ◌-◌, ◌≤◌, ◌<◌}
use native.Mathlib.Omega.{arith}
use native.Mathlib.Numerals.{add-one}
use native.Mathlib.Decide.{dec_lt}
use mathlib.Core.Path.{◌≡◌, refl, sym, ap, ◌∙◌}
use mathlib.Core.Bool.{Bool, true, false, not, ◌&&◌, ◌||◌, false≢true}
use Rattle.std.specs.Prelude.{◌==◌}
use mathlib.Core.List.{[], ◌∷◌}
use Rattle.std.specs.Prelude.{Option, None, Some}
use lib.ListN.{length, get_or-eq_default}
use lib.Dec.{ltb}
use borrow.Author.Tests.{ltb-true, ltb-false, lt-ltb, le-ltb, ne_eqb}
use Rattle.pack.specs.Meaning.{opt_order}
use Rattle.pack.specs.Notation.{◌<ᵇ◌, ◌≤ᵇ◌}
use Rattle.pack.specs.Value.{Repeating, Pgn}
use Rattle.rules.specs.Search.{any_below, every_below}
use Rattle.rules.specs.SearchLaws.{any_hit, every_missed}
use Rattle.walk.specs.Layout.{Layout, layout, no_set, set_at, start, end, nonempty, holds, sets_hold, share, nested_in, inside_previous}
use Rattle.walk.specs.Layout.{misplaced, clash, stop_1}
use Rattle.walk.specs.Held.{shares_held, count_field_held, count_fields_held}
use Rattle.walk.specs.ByPlace.{placed}
use Rattle.walk.specs.SetsOf.{IsSet, SetsAre, empty_set, value_at, has_orders, in_set, holds_both, sets_share, set_misplaced, set_inside}
use Rattle.walk.specs.declared.sets.Set.{Set}
use Rattle.walk.specs.declared.sets.Sets.{Sets}
use Rattle.walk.proofs.SetFacts.{layout_length}
use Rattle.walk.proofs.Tests.{or_i, and_none, every_i, none_below}

-- a set has orders if its count is not 0
grows : (n k : ℕ) → (n <ᵇ n + k) ≡ (0 <ᵇ k)
grows n k = go (ltb 0 k) refl
  where
    go : (b : Bool) → ltb 0 k ≡ b → ltb n (n + k) ≡ b
    go true e = lt-ltb n (n + k) (omega (arith, ltb-true 0 k e))
    go false e = le-ltb n (n + k) (omega (arith, ltb-false 0 k e))

-- the field t by its order
pub placed_by : (L : Layout) (o t own : ℕ) → own ≡ t + 1 → placed L o t ≡ ((own <ᵇ o) && sets_hold L own o)
unfolding placed
placed_by L o t own e = rw (e, add-one t)

-- none of these is some of these
pub every_not : (f : ℕ → Bool) (n : ℕ) → every_below (λ k. not (f k)) n ≡ not (any_below f n)
every_not f zero = refl
every_not f (suc n) = rw (every_not f n) (go (any_below f n) (f n))
  where
    go : (a b : Bool) → (not a && not b) ≡ not (a || b)
    go true b = refl
    go false b = refl

-- what a test of no more than four sets is, where it says nothing of those past the last
module _ (f : ℕ → Bool) (n : ℕ) where
  every_miss : ((j : ℕ) → n ≤ j → f j ≡ true) → (k : ℕ) → f k ≡ false → every_below f n ≡ false
  every_miss past k e = go (dec_lt k n)
    where
      go : Dec (k < n) → every_below f n ≡ false
      go (yes l) = every_missed f n k l e
      go (no l) = absurd (false≢true (sym e ∙ past k (omega arith)))

  any_met : ((j : ℕ) → n ≤ j → f j ≡ false) → (k : ℕ) → f k ≡ true → any_below f n ≡ true
  any_met past k e = go (dec_lt k n)
    where
      go : Dec (k < n) → any_below f n ≡ true
      go (yes l) = any_hit f n k l e
      go (no l) = absurd (false≢true (sym (past k (omega arith)) ∙ e))

-- ---- sets past the last

module _ (L : Layout) (k : ℕ) (past : length L.sets ≤ k) where
  none_at : set_at L k ≡ no_set
  none_at = get_or-eq_default L.sets no_set past

  holds_none : (o : ℕ) → holds L k o ≡ false
  holds_none o =
      let e : end L k ≡ 0 = ap (λ (s : Repeating). s.start + s.count) none_at in
      rw (le-ltb o (end L k) (omega (arith, e))) (and_none (start L k ≤ᵇ o))

  none_misplaced : misplaced L k ≡ false
  unfolding misplaced
  none_misplaced = rw none_at

  none_clash : (j : ℕ) → clash L j k ≡ false
  unfolding clash share
  none_clash j = rw none_at (rw (and_none (nonempty L j)))

-- nothing comes before set 0
pub nested_none : (L : Layout) (j : ℕ) → nested_in L j 0 ≡ false
unfolding nested_in
nested_none L j = refl

-- ---- set k by its value

module _ {L : Layout} {v : Sets} (a : SetsAre L v) (k : ℕ) where
  pub nonempty_at : nonempty L k ≡ has_orders (value_at v k)
  nonempty_at = rw ((a.set k).start, (a.set k).end, grows (set_at L k).start (set_at L k).count)

  pub holds_at : (o : ℕ) → holds L k o ≡ in_set (value_at v k) o
  holds_at o = rw ((a.set k).start, (a.set k).end)

  pub misplaced_at : misplaced L k ≡ set_misplaced (value_at v k) v.fields (inside_previous L k)
  unfolding misplaced
  misplaced_at = rw nonempty_at (rw ((a.set k).start, (a.set k).end, (a.set k).nested, a.fields))

module _ {L : Layout} {v : Sets} (a : SetsAre L v) where
  pub share_at : (j k : ℕ) → share L j k ≡ sets_share (value_at v j) (value_at v k)
  unfolding share
  share_at j k = rw (nonempty_at a j, nonempty_at a k) (rw ((a.set j).start, (a.set j).end, (a.set k).start, (a.set k).end))

  pub clash_at : (j k : ℕ) → clash L j k ≡ (sets_share (value_at v j) (value_at v k) && not (nested_in L j k))
  unfolding clash
  clash_at j k = rw (share_at j k)

  pub inside_by : (k : ℕ) → inside_previous L k ≡ (not (k == 0) && set_inside (value_at v k) (value_at v (k - 1)))
  unfolding inside_previous
  inside_by zero = refl
  inside_by (suc k) =
      let d : suc k - 1 ≡ k = omega arith in
      rw (ne_eqb (suc k) 0 (λ e. omega (arith, e)), d, (a.set k).start, (a.set k).end, (a.set (suc k)).start, (a.set (suc k)).end)

  -- nested in set j, from the marks
  pub nested_next : (j k : ℕ) → 0 < k → nested_in L j k ≡ ((value_at v (k - 1 + 1)).nested && ((j == k - 1) || nested_in L j (k - 1)))
  unfolding nested_in
  nested_next j zero h = absurd (omega arith)
  nested_next j (suc k) h = let d : suc k - 1 ≡ k = omega arith in rw (d, add-one k, (a.set (suc k)).nested)

  -- ---- all sets

  both_at : (x y k : ℕ) → (not (holds L k x) || holds L k y) ≡ holds_both (value_at v k) x y
  both_at x y k = rw (holds_at a k x, holds_at a k y)

  pub sets_hold_miss : (x y k : ℕ) → holds_both (value_at v k) x y ≡ false → sets_hold L x y ≡ false
  unfolding sets_hold
  sets_hold_miss x y k e = every_miss _ (length L.sets) (λ j p. rw (holds_none L j p x)) k (both_at x y k ∙ e)

  pub sets_hold_all : (x y : ℕ) → ((k : ℕ) → k < 4 → holds_both (value_at v k) x y ≡ true) → sets_hold L x y ≡ true
  unfolding sets_hold
  sets_hold_all x y h = every_i _ (length L.sets) (λ k l. both_at x y k ∙ h k (omega (arith, a.few)))

  -- set k clashes with none before it
  no_clashes : (k : ℕ) → length L.sets ≤ k → any_below (λ j. clash L j k) k ≡ false
  no_clashes k p = none_below _ k (λ j l. none_clash L k p j)

  passed : (k : ℕ) → length L.sets ≤ k → (misplaced L k || any_below (λ j. clash L j k) k) ≡ false
  passed k p = or_i _ _ (none_misplaced L k p) (no_clashes k p)

  pub stop_met : (k : ℕ) → (misplaced L k || any_below (λ j. clash L j k) k) ≡ true → stop_1 L ≡ true
  unfolding stop_1
  stop_met = any_met _ (length L.sets) passed

  pub stop_none : ((k : ℕ) → k < 4 → (misplaced L k || any_below (λ j. clash L j k) k) ≡ false) → stop_1 L ≡ false
  unfolding stop_1
  stop_none h = none_below _ (length L.sets) (λ k l. h k (omega (arith, a.few)))

  -- ---- held

  apart : (k : ℕ) (b : Bool) → any_below (λ j. clash L j k) k ≡ b → every_below (λ j. not (clash L j k)) k ≡ not b
  apart k b e = every_not (λ j. clash L j k) k ∙ ap not e

  pub shares_miss : (k : ℕ) → any_below (λ j. clash L j k) k ≡ true → shares_held L ≡ false
  unfolding shares_held
  shares_miss k e = every_miss _ (length L.sets) (λ j p. apart j false (no_clashes j p)) k (apart k true e)

  pub shares_all : ((k : ℕ) → k < 4 → any_below (λ j. clash L j k) k ≡ false) → shares_held L ≡ true
  unfolding shares_held
  shares_all h = every_i _ (length L.sets) (λ k l. apart k false (h k (omega (arith, a.few))))

  pub count_miss : (k c j : ℕ) → (not (holds L j c) || nested_in L j k) ≡ false → count_field_held L k (Some c) ≡ false
  unfolding count_field_held
  count_miss k c j e = every_miss _ (length L.sets) (λ j p. rw (holds_none L j p c)) j e

  pub count_all : (k c : ℕ) → ((j : ℕ) → j < 4 → (not (holds L j c) || nested_in L j k) ≡ true) → count_field_held L k (Some c) ≡ true
  unfolding count_field_held
  count_all k c h = every_i _ (length L.sets) (λ j l. h j (omega (arith, a.few)))

  -- the countField of set k, by its value
  pub count_by : (k : ℕ) (o : Option ℕ) → opt_order (value_at v k).counter ≡ o
      → count_field_held L k (set_at L k).count_field ≡ count_field_held L k o
  count_by k o e = ap (count_field_held L k) (sym (a.set k).counter ∙ e)

  pub count_none : (k : ℕ) → count_field_held L k None ≡ true
  unfolding count_field_held
  count_none k = refl

  counted : (k : ℕ) → length L.sets ≤ k → count_field_held L k (set_at L k).count_field ≡ true
  counted k p = ap (λ (s : Repeating). count_field_held L k s.count_field) (none_at L k p) ∙ count_none k

  pub counts_miss : (k : ℕ) → count_field_held L k (set_at L k).count_field ≡ false → count_fields_held L ≡ false
  unfolding count_fields_held
  counts_miss k e = every_miss _ (length L.sets) counted k e

  pub counts_all : ((k : ℕ) → k < 4 → count_field_held L k (set_at L k).count_field ≡ true) → count_fields_held L ≡ true
  unfolding count_fields_held
  counts_all h = every_i _ (length L.sets) (λ k l. h k (omega (arith, a.few)))

-- ---- four values are the sets of a PGN

module _ (p : Pgn) (few : length p.sets ≤ 4) (a b c d : Set) (n : ℕ) (fields : n ≡ length p.fields) where
  beyond : (k : ℕ) → IsSet (layout p) (suc (suc (suc (suc k)))) empty_set
  beyond k =
      rw (none_at (layout p) (suc (suc (suc (suc k)))) (omega (arith, layout_length p)))
      (record { start = refl; end = refl; counter = refl; bits = refl; nested = refl })

  pub four_sets : IsSet (layout p) 0 a → IsSet (layout p) 1 b → IsSet (layout p) 2 c → IsSet (layout p) 3 d
      → SetsAre (layout p) (record { fields = n; sets = a ∷ b ∷ c ∷ d ∷ [] })
  four_sets is-a is_b is_c is-d = record { fields = fields; few = omega (arith, layout_length p); set = go }
    where
      go : (k : ℕ) → IsSet (layout p) k (value_at (record { fields = n; sets = a ∷ b ∷ c ∷ d ∷ [] }) k)
      go zero = is-a
      go (suc zero) = is_b
      go (suc (suc zero)) = is_c
      go (suc (suc (suc zero))) = is-d
      go (suc (suc (suc (suc k)))) = beyond k
