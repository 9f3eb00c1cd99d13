-- A PGN's places for sets: how many, and what stands at each.
use Rattle.pack.specs.Items.{◌▷◌, give, Cursor}
use Prim.Native.Nat.{ℕ, zero, suc, ◌≤◌, ◌<◌}
use native.Mathlib.Omega.{arith}
use native.Mathlib.Decide.{dec_lt}
use mathlib.Core.Path.{◌≡◌, refl, ap, ◌∙◌, sym}
use mathlib.Core.List.{List, [], ◌∷◌}
use Rattle.std.specs.Prelude.{Option, None}
use lib.ListN.{length, get_or, get_or-eq_default}
use Rattle.pack.specs.Notation.{tab}
use Rattle.pack.specs.Value.{Repeating, Pgn, pgns_of, no_pgn, pgn_at, set_place}
use Rattle.pack.specs.Records.{read_pgn}
use Rattle.pack.specs.Format.{tree_list, pgn_start}
use Rattle.pack.specs.Meaning.{optional_repeating, pgn_of_pack, pack_of}
use Rattle.pack.specs.Ready.{PgnIs}
use Rattle.pack.specs.declared.pgn.PgnView.{PgnView}
use Rattle.pack.proofs.Tables.{length_tab, getD_tab}
use Rattle.pack.proofs.Values.{pgns_are, pgn_is}

pub places_read : (s : List ℕ) (c : Cursor) → (read_pgn s c).value.places ≡ 2
unfolding read_pgn ◌▷◌ give
places_read s c = refl

-- what a view that means a PGN says of its sets
module _ {s : List ℕ} {G : Pgn} {v : PgnView} (is : PgnIs s G v) where
  sets_are : tab (λ k. optional_repeating (get_or v.sets k None)) v.places ≡ G.sets
  sets_are = ap (λ (p : Pgn). p.sets) is.means

  pub places_are : v.places ≡ length G.sets
  places_are = sym (length_tab (λ k. optional_repeating (get_or v.sets k None)) v.places) ∙ ap length sets_are

  pub set_is : (k : ℕ) → k < v.places → optional_repeating (get_or v.sets k None) ≡ set_place G k
  set_is k h =
      sym (getD_tab (λ k. optional_repeating (get_or v.sets k None)) None v.places k h)
      ∙ ap (λ (l : List (Option Repeating)). get_or l k None) sets_are

two_of : (l : List (Option Repeating)) → length l ≡ 2 → l ≡ get_or l 0 None ∷ get_or l 1 None ∷ []
two_of [] h = absurd (omega (arith, h))
two_of (a ∷ []) h = absurd (omega (arith, h))
two_of (a ∷ b ∷ []) h = refl
two_of (a ∷ b ∷ c ∷ l) h = absurd (omega (arith, h))

-- version 1: two places
module _ (s : List ℕ) where
  pub places_of : (t i : ℕ) → t < 3 → i < length (pgns_of (pack_of s) t) → length (pgn_at (pack_of s) t i).sets ≡ 2
  unfolding pgn_of_pack
  places_of t i h l =
      let m : i < (tree_list s t).value = omega (arith, pgns_are s t h) in
      rw (pgn_is s t i h m) (length_tab _ _ ∙ places_read s (pgn_start s t i))

  pub two_sets : (t i : ℕ) → t < 3 → i < length (pgns_of (pack_of s) t)
      → (pgn_at (pack_of s) t i).sets ≡ set_place (pgn_at (pack_of s) t i) 0 ∷ set_place (pgn_at (pack_of s) t i) 1 ∷ []
  two_sets t i h l = two_of (pgn_at (pack_of s) t i).sets (places_of t i h l)

  -- beyond the trees and their PGNs there are none
  pub sets_two : (t i : ℕ) → length (pgn_at (pack_of s) t i).sets ≤ 2
  sets_two t i = go (dec_lt t 3) (dec_lt i (length (pgns_of (pack_of s) t)))
    where
      beyond : (t : ℕ) → 3 ≤ t → length (pgn_at (pack_of s) t i).sets ≤ 2
      beyond zero h = absurd (omega arith)
      beyond (suc zero) h = absurd (omega arith)
      beyond (suc (suc zero)) h = absurd (omega arith)
      beyond (suc (suc (suc t))) h = omega arith

      go : Dec (t < 3) → Dec (i < length (pgns_of (pack_of s) t)) → length (pgn_at (pack_of s) t i).sets ≤ 2
      go (yes h) (yes l) = omega (arith, places_of t i h l)
      go (yes h) (no l) = rw (get_or-eq_default (pgns_of (pack_of s) t) no_pgn {n = i} (omega arith)) (omega arith)
      go (no h) l = beyond t (omega arith)

  -- a view has room for four
  pub sets_few : (t i : ℕ) → length (pgn_at (pack_of s) t i).sets ≤ 4
  sets_few t i = omega (arith, sets_two t i)
