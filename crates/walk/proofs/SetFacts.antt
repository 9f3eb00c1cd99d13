-- The sets' facts: which orders a set holds, and what stop 1 shuts out.
use Prim.Native.Nat.{ℕ, zero, suc, ◌≤◌, ◌<◌}
use native.Mathlib.Omega.{arith}
use native.Mathlib.Decide.{dec_lt}
use mathlib.Core.Path.{◌≡◌, refl, sym, ap, ◌∙◌}
use mathlib.Core.Bool.{Bool, true, false, not, ◌||◌, false≢true}
use mathlib.Core.List.{List, [], ◌∷◌}
use Rattle.std.specs.Prelude.{None}
use lib.ListN.{length, get_or-eq_default}
use lib.Dec.{ltb, leb, eqb}
use borrow.Author.Tests.{ltb-true, ltb-false, leb-true, eqb-true, eqb-false, not-false, lt-ltb, le-leb}
use Rattle.pack.specs.Meaning.{pack_of}
use Rattle.pack.specs.Value.{Repeating, Pgn, pgns_of, pgn_at, set_place}
use Rattle.pack.proofs.Sets.{places_of}
use Rattle.pack.proofs.Tables.{length_tab, getD_tab}
use Rattle.rules.specs.SearchLaws.{any_missed}
use Rattle.rules.specs.Search.{any_below, every_below}
use Rattle.walk.specs.Layout.{set_or_empty, layout}
use Rattle.walk.specs.Layout.{Layout, no_set, set_at, start, end, nonempty, holds, sets_hold, share, nested_in, inside_previous, misplaced, clash, stop_1}
use Rattle.walk.specs.ByPlace.{placed}
use Rattle.walk.proofs.Tests.{and_l, and_r, and_i, or_l, or_r, imp_e, imp_i, and_false, every_e, every_i}

-- the sets of a PGN: as many as it has places, each at its place
module _ (p : Pgn) where
  pub layout_length : length (layout p).sets ≡ length p.sets
  layout_length = length_tab (λ k. set_or_empty (set_place p k)) (length p.sets)

  pub layout_at : (k : ℕ) → set_at (layout p) k ≡ set_or_empty (set_place p k)
  layout_at k = go (dec_lt k (length p.sets))
    where
      go : Dec (k < length p.sets) → set_at (layout p) k ≡ set_or_empty (set_place p k)
      go (yes l) = getD_tab (λ k. set_or_empty (set_place p k)) no_set (length p.sets) k l
      go (no l) =
          get_or-eq_default (layout p).sets no_set (omega (arith, layout_length))
          ∙ ap set_or_empty (sym (get_or-eq_default p.sets None (omega arith)))

-- version 1: of a PGN of a pack, set 1 stands at 0 and set 2 at 1, and there is no other
pub layout_of_pack : (s : List ℕ) (t i : ℕ) → t < 3 → i < length (pgns_of (pack_of s) t)
    → layout (pgn_at (pack_of s) t i)
    ≡ record {
      fields = (pgn_at (pack_of s) t i).fields;
      sets = set_or_empty (set_place (pgn_at (pack_of s) t i) 0) ∷ set_or_empty (set_place (pgn_at (pack_of s) t i) 1) ∷ [];
    }
layout_of_pack s t i l m = rw (places_of s t i l m)

-- set k holds the order o
abbrev pub Holds : Layout → ℕ → ℕ → Type 0
Holds L k o = (start L k ≤ o) × (o < end L k)

pub holds_e : (L : Layout) (k o : ℕ) → holds L k o ≡ true → Holds L k o
holds_e L k o e = (leb-true _ _ (and_l (leb (start L k) o) _ e), ltb-true _ _ (and_r (leb (start L k) o) _ e))

pub holds_i : (L : Layout) (k o : ℕ) → Holds L k o → holds L k o ≡ true
holds_i L k o h = and_i (leb (start L k) o) _ (le-leb _ _ h.0) (lt-ltb _ _ h.1)

pub short : (L : Layout) (k o : ℕ) → Holds L k o → k < length L.sets
short L k o h = go (ltb k (length L.sets)) refl
  where
    go : (b : Bool) → ltb k (length L.sets) ≡ b → k < length L.sets
    go true e = ltb-true _ _ e
    go false e =
        let q = get_or-eq_default L.sets no_set (ltb-false k (length L.sets) e) in
        absurd (omega (arith, ap (λ (s : Repeating). s.start) q, ap (λ (s : Repeating). s.count) q))

-- a test of every set, as a fact of the sets that hold o
pub each_e : (L : Layout) (o : ℕ) (f : ℕ → Bool) → every_below (λ k. not (holds L k o) || f k) (length L.sets) ≡ true → (k : ℕ) → Holds L k o → f k ≡ true
each_e L o f e k h = imp_e (holds L k o) (f k) (every_e _ (length L.sets) e k (short L k o h)) (holds_i L k o h)

pub each_i : (L : Layout) (o : ℕ) (f : ℕ → Bool) → ((k : ℕ) → Holds L k o → f k ≡ true) → every_below (λ k. not (holds L k o) || f k) (length L.sets) ≡ true
each_i L o f h = every_i _ (length L.sets) (λ k l. imp_i (holds L k o) (f k) (λ e. h k (holds_e L k o e)))

-- `placed` in words
pub placed_e : (L : Layout) (o t : ℕ) → placed L o t ≡ true → (suc t < o) × ((k : ℕ) → Holds L k (suc t) → Holds L k o)
unfolding placed sets_hold
placed_e L o t e = (ltb-true _ _ (and_l _ _ e), λ k h. holds_e L k o (each_e L (suc t) (λ k. holds L k o) (and_r (ltb (suc t) o) _ e) k h))

pub placed_i : (L : Layout) (o t : ℕ) → suc t < o → ((k : ℕ) → Holds L k (suc t) → Holds L k o) → placed L o t ≡ true
unfolding placed sets_hold
placed_i L o t l h = and_i _ _ (lt-ltb _ _ l) (each_i L (suc t) (λ k. holds L k o) (λ k a. holds_i L k o (h k a)))

-- sets that hold one order share it
pub share_i : (L : Layout) (j k o : ℕ) → Holds L j o → Holds L k o → share L j k ≡ true
unfolding share
share_i L j k o h g =
    rw (
      lt-ltb 0 (set_at L j).count (omega arith),
      lt-ltb 0 (set_at L k).count (omega arith),
      lt-ltb (start L j) (end L k) (omega arith),
      lt-ltb (start L k) (end L j) (omega arith),
    )

-- past stop 1
pub record Good (L : Layout) : Type 0 where
  pub low : (k o : ℕ) → Holds L k o → 1 ≤ start L k
  pub high : (k o : ℕ) → Holds L k o → end L k ≤ suc (length L.fields)
  pub inside : (j k o : ℕ) → j < k → Holds L j o → Holds L k o → (start L j < start L k) × (end L k ≤ end L j)

module _ (L : Layout) (laid : stop_1 L ≡ false) where
  each : (k : ℕ) → k < length L.sets → (misplaced L k || any_below (λ j. clash L j k) k) ≡ false
  unfolding stop_1
  each = any_missed _ (length L.sets) laid

  record Laid (k : ℕ) : Type 0 where
    low : 1 ≤ start L k
    high : end L k ≤ suc (length L.fields)
    nests : (set_at L k).nested ≡ true → inside_previous L k ≡ true

  laid_e : (k o : ℕ) → Holds L k o → Laid k
  unfolding misplaced
  laid_e k o h =
      let a = or_l (misplaced L k) _ (each k (short L k o h)) in
      let b = and_false (nonempty L k) _ a (lt-ltb 0 (set_at L k).count (omega arith)) in
      let c = or_l _ _ b in
      let z = eqb-false (start L k) 0 (or_l _ _ c) in
      record {
        low = omega arith;
        high = ltb-false _ _ (or_r (eqb (start L k) 0) _ c);
        nests = λ e. not-false (inside_previous L k) (and_false _ _ (or_r (eqb (start L k) 0 || ltb (suc (length L.fields)) (end L k)) _ b) e);
      }

  pub nested_e : (j k o : ℕ) → Holds L k o → nested_in L j k ≡ true → (start L j < start L k) × (end L k ≤ end L j)
  unfolding nested_in inside_previous
  nested_e j zero o h e = absurd (false≢true e)
  nested_e j (suc k) o h e =
      let i = (laid_e (suc k) o h).nests (and_l _ _ e) in
      let a : start L k < start L (suc k) = ltb-true _ _ (and_l _ _ i) in
      let b : end L (suc k) ≤ end L k = leb-true _ _ (and_r (ltb (start L k) (start L (suc k))) _ i) in
      go (eqb j k) refl (and_r (set_at L (suc k)).nested _ e) (nested_e j k o (omega arith)) a b
    where
      go : (t : Bool) → eqb j k ≡ t → (t || nested_in L j k) ≡ true → (nested_in L j k ≡ true → (start L j < start L k) × (end L k ≤ end L j))
          → start L k < start L (suc k) → end L (suc k) ≤ end L k → (start L j < start L (suc k)) × (end L (suc k) ≤ end L j)
      go true q c r a b = rw (eqb-true j k q) (a, b)
      go false q c r a b = let d = r c in omega arith

  pub good : Good L
  unfolding clash
  good = record {
    low = λ k o h. (laid_e k o h).low;
    high = λ k o h. (laid_e k o h).high;
    inside = λ j k o l h g.
        let a = any_missed (λ j. clash L j k) k (or_r (misplaced L k) _ (each k (short L k o g))) j l in
        nested_e j k o g (not-false (nested_in L j k) (and_false (share L j k) _ a (share_i L j k o h g)));
  }
