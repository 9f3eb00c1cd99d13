-- In an accepted pack every record begins at a cursor that is not refused.
use Rattle.pack.specs.Items.{Cursor}
use Rattle.std.specs.Prelude.{None}
use Rattle.std.specs.Prelude.{◌==◌}
use Prim.Native.Nat.{ℕ, zero, suc, ◌+◌, ◌-◌, ◌≤◌, ◌<◌}
use native.Mathlib.Omega.{arith}
use mathlib.Core.Path.{◌≡◌, refl}
use mathlib.Core.List.{List}
use mathlib.Core.Bool.{Bool, true, false}
use borrow.Author.Tests.{eqb-true, ltb-false}
use lib.ListN.{length}
use Rattle.pack.specs.Notation.{◌<ᵇ◌}
use Rattle.pack.specs.Items.{fresh}
use Rattle.pack.specs.Records.{read_lookup, read_pgn}
use Rattle.pack.specs.Format.{types, entries, lookup_next, lookups, fields, pgn_next, pgns, type_list, lookup_list, tree_start}
use Rattle.pack.specs.Format.{tree_list, pack_end}
use Rattle.pack.specs.Format.{type_start, lookup_start, pgn_start}
use Rattle.pack.specs.Load.{most_bytes, refused, accepted, verdict}
use Rattle.pack.specs.Reads.{refusal_of}
use Rattle.pack.specs.declared.load.Refusal.TheVariants.{Input, TooLong}
use Rattle.pack.proofs.Reading.{back, clean, number_reader, type_reader, entry_reader, lookup_steps, field_steps, pgn_next_reader}
use Rattle.pack.proofs.Places.{lookups_turn, pgns_turn}
use Rattle.pack.specs.Reads.{refusal_of}
use Rattle.pack.proofs.Whole.{finish_back, tree_reader}

pub fresh_at : (c : Cursor) → c.refused ≡ 0 → c ≡ fresh c.at
fresh_at c e = λ j. record { at = c.at; refused = e j }

-- what accepted means
pub accepted_end : (s : List ℕ) → verdict s ≡ accepted → ((pack_end s).refused ≡ 0) × (length s ≤ most_bytes)
unfolding verdict
accepted_end s e = go (most_bytes <ᵇ length s) refl ((pack_end s).refused == 0) refl
  where
    go : (a : Bool) → (most_bytes <ᵇ length s) ≡ a → (b : Bool) → ((pack_end s).refused == 0) ≡ b → ((pack_end s).refused ≡ 0) × (length s ≤ most_bytes)
    go true x b y =
        let z : refused TooLong ≡ accepted = rw x at e in
        let w : ◌≡◌ {A = ℕ} 0 1 = cc in absurd (omega arith)
    go false x true y = (eqb-true (pack_end s).refused 0 y, ltb-false most_bytes (length s) x)
    go false x false y =
        let z : refused (Input (refusal_of (pack_end s))) ≡ accepted = rw (x, y) at e in
        let w : ◌≡◌ {A = ℕ} 0 1 = cc in absurd (omega arith)

module _ (s : List ℕ) (a : (pack_end s).refused ≡ 0) where
  abbrev k : ℕ
  k = (type_list s).value

  -- tree t begins, d trees before the end
  tree_from : (d t : ℕ) → d + t ≡ 3 → (tree_start s t).refused ≡ 0
  unfolding tree_start pack_end
  tree_from zero t e = let z : t ≡ 3 = omega arith in rw z (finish_back s (tree_start s 3) a)
  tree_from (suc d) t e = back (tree_reader s k) (tree_start s t) (tree_from d (suc t) (omega arith))

  pub tree_clean : (t : ℕ) → t ≤ 3 → (tree_start s t).refused ≡ 0
  tree_clean t h = tree_from (3 - t) t (omega arith)

  pub pgn_clean : (t i : ℕ) → t < 3 → i ≤ (tree_list s t).value → (pgn_start s t i).refused ≡ 0
  unfolding tree_start tree_list pgns
  pgn_clean t i h l = clean (pgn_next_reader s k) (tree_list s t).next i (tree_list s t).value l (tree_clean (suc t) (omega arith))

  pub field_clean : (t i j : ℕ) → t < 3 → i < (tree_list s t).value → j ≤ (read_pgn s (pgn_start s t i)).value.fields
      → (fields k s (read_pgn s (pgn_start s t i)).next j).next.refused ≡ 0
  unfolding fields pgn_next
  field_clean t i j h l m =
      let e : (pgn_next k s (pgn_start s t i)).refused ≡ 0 = rw (← pgns_turn s (tree_list s t).next k i) (pgn_clean t (i + 1) h (omega arith)) in
      clean (field_steps s k) (record { next = (read_pgn s (pgn_start s t i)).next; total = 0 }) j (read_pgn s (pgn_start s t i)).value.fields m e

  pub lookup_clean : (i : ℕ) → i ≤ (lookup_list s).value → (lookup_start s i).next.refused ≡ 0
  unfolding tree_start lookups
  lookup_clean i l = clean (lookup_steps s) (record { next = (lookup_list s).next; before = None }) i (lookup_list s).value l (tree_clean 0 (omega arith))

  lookup_next_clean : (i : ℕ) → i < (lookup_list s).value → (lookup_next s (lookup_start s i)).next.refused ≡ 0
  lookup_next_clean i l = rw (← lookups_turn s (lookup_list s).next i) (lookup_clean (i + 1) (omega arith))

  pub entry_clean : (i j : ℕ) → i < (lookup_list s).value → j ≤ (read_lookup (lookup_start s i).before s (lookup_start s i).next).value.entries
      → (entries (read_lookup (lookup_start s i).before s (lookup_start s i).next).value.kind s
      (read_lookup (lookup_start s i).before s (lookup_start s i).next).next j).refused ≡ 0
  unfolding entries lookup_next
  entry_clean i j l m =
      clean (entry_reader s (read_lookup (lookup_start s i).before s (lookup_start s i).next).value.kind)
      (read_lookup (lookup_start s i).before s (lookup_start s i).next).next j
      (read_lookup (lookup_start s i).before s (lookup_start s i).next).value.entries m (lookup_next_clean i l)

  pub type_clean : (i : ℕ) → i ≤ (type_list s).value → (type_start s i).refused ≡ 0
  unfolding lookup_list types lookups
  type_clean i l =
      let e : (lookup_start s 0).next.refused ≡ 0 = lookup_clean 0 (omega arith) in
      clean (type_reader s) (type_list s).next i (type_list s).value l (back (number_reader s) (types s (type_list s).next (type_list s).value) e)
