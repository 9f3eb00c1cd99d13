-- Bounds for the layers above: an accepted pack has no more records than bytes, and every offset is within it.
use Rattle.pack.specs.Items.{Cursor}
use Rattle.std.specs.Prelude.{◌==◌}
use Prim.Native.Nat.{ℕ, zero, suc, ◌+◌, ◌≤◌}
use native.Mathlib.Omega.{arith}
use mathlib.Core.Path.{◌≡◌}
use mathlib.Core.List.{List, [], ◌∷◌, ◌++◌}
use lib.ListN.{length, get_or, length-append}
use Rattle.pack.specs.Notation.{◌<ᵇ◌, concat_below}
use Rattle.pack.specs.Items.{fresh, finish}
use Rattle.pack.specs.Records.{read_lookup, read_pgn}
use Rattle.pack.specs.Format.{types, type_offsets, entries, entry_offsets, LookupState, lookup_next, lookups, lookup_records, lookup_offsets, FieldState}
use Rattle.pack.specs.Format.{field_next, fields, field_offsets, pgn_next, pgns, pgn_records, pgn_offsets, type_list, lookup_list, tree_start}
use Rattle.pack.specs.Format.{tree_list, type_part}
use Rattle.pack.specs.Format.{lookup_part, tree_part, before, offsets, pack_end, lookup_start, pgn_start}
use Rattle.pack.specs.Load.{most_bytes}
use Rattle.pack.specs.Ready.{Ready}
use Rattle.pack.specs.declared.kinds.LookupKind.{LookupKind}
use Rattle.pack.proofs.Reading.{if_all, back, number_reader, version_reader, type_reader, type_moves, types_reader, entry_reader, entry_moves}
use Rattle.pack.proofs.Reading.{entries_reader, lookup_reader, lookup_moves, lookup_steps, lookups_reader, field_steps, field_moves, fields_reader}
use Rattle.pack.proofs.Reading.{pgn_reader, pgn_moves, pgn_next_reader, pgns_reader}
use Rattle.pack.proofs.Clean.{accepted_end, tree_clean}
use Rattle.pack.proofs.Values.{length_types, length_lookup, length_pgn}
use Rattle.pack.proofs.Whole.{tree_reader}

module _ (s : List ℕ) where
  types_advance : (c : Cursor) (n : ℕ) → (types s c n).refused ≡ 0 → c.at + n ≤ (types s c n).at
  unfolding types
  types_advance c zero e = omega arith
  types_advance c (suc n) e = omega (arith, types_advance c n (back (type_reader s) (types s c n) e), type_moves s (types s c n) e)

  entries_advance : (k : LookupKind) (c : Cursor) (n : ℕ) → (entries k s c n).refused ≡ 0 → c.at + n ≤ (entries k s c n).at
  unfolding entries
  entries_advance k c zero e = omega arith
  entries_advance k c (suc n) e = omega (arith, entries_advance k c n (back (entry_reader s k) (entries k s c n) e), entry_moves s k (entries k s c n) e)

  field_advance : (k : ℕ) (a : FieldState) → (field_next k s a).next.refused ≡ 0 → a.next.at + 1 ≤ (field_next k s a).next.at
  unfolding field_next
  field_advance k a e = field_moves s k a.total a.next e

  fields_advance : (k : ℕ) (c : Cursor) (n : ℕ) → (fields k s c n).next.refused ≡ 0 → c.at + n ≤ (fields k s c n).next.at
  unfolding fields
  fields_advance k c zero e = omega arith
  fields_advance k c (suc n) e = omega (arith, fields_advance k c n (back (field_steps s k) (fields k s c n) e), field_advance k (fields k s c n) e)

  lookup_advance : (a : LookupState) → (lookup_next s a).next.refused ≡ 0 → a.next.at + length (lookup_records s a) ≤ (lookup_next s a).next.at
  unfolding lookup_next
  lookup_advance a e =
      let l = read_lookup a.before s a.next in
      let h = back (entries_reader s l.value.kind l.value.entries) l.next e in
      omega (arith, length_lookup s a, lookup_moves s a.before a.next h, entries_advance l.value.kind l.next l.value.entries e)

  lookups_advance : (c : Cursor) (n : ℕ) → (lookups s c n).next.refused ≡ 0 → c.at + length (lookup_offsets s c n) ≤ (lookups s c n).next.at
  unfolding lookups lookup_offsets
  lookups_advance c zero e = omega arith
  lookups_advance c (suc n) e =
      omega (
        arith,
        lookups_advance c n (back (lookup_steps s) (lookups s c n) e),
        lookup_advance (lookups s c n) e,
        length-append (lookup_offsets s c n) (lookup_records s (lookups s c n)),
      )

  pgn_advance : (k : ℕ) (c : Cursor) → (pgn_next k s c).refused ≡ 0 → c.at + length (pgn_records k s c) ≤ (pgn_next k s c).at
  unfolding pgn_next
  pgn_advance k c e =
      let p = read_pgn s c in
      let h = back (fields_reader s k p.value.fields) p.next e in
      omega (arith, length_pgn s k c, pgn_moves s c h, fields_advance k p.next p.value.fields e)

  pgns_advance : (k : ℕ) (c : Cursor) (n : ℕ) → (pgns k s c n).refused ≡ 0 → c.at + length (pgn_offsets k s c n) ≤ (pgns k s c n).at
  unfolding pgns pgn_offsets
  pgns_advance k c zero e = omega arith
  pgns_advance k c (suc n) e =
      omega (
        arith,
        pgns_advance k c n (back (pgn_next_reader s k) (pgns k s c n) e),
        pgn_advance k (pgns k s c n) e,
        length-append (pgn_offsets k s c n) (pgn_records k s (pgns k s c n)),
      )

  before_advance : (pack_end s).refused ≡ 0 → (t : ℕ) → t ≤ 3 → length (before s t) ≤ (tree_start s t).at
  unfolding before tree_start tree_list lookup_list
  before_advance a zero h =
      let z = tree_clean s a 0 (omega arith) in
      let l = back (lookups_reader s (lookup_list s).value) (lookup_list s).next z in
      let e = back (number_reader s) (types s (type_list s).next (type_list s).value) l in
      omega (
        arith,
        length-append (type_part s) (lookup_part s),
        length_types s (type_list s).next (type_list s).value,
        types_advance (type_list s).next (type_list s).value e,
        (number_reader s).grows (types s (type_list s).next (type_list s).value),
        lookups_advance (lookup_list s).next (lookup_list s).value z,
      )
  before_advance a (suc t) h =
      let z = tree_clean s a (suc t) h in
      omega (
        arith,
        before_advance a t (omega arith),
        length-append (before s t) (tree_part s t),
        (number_reader s).grows (tree_start s t),
        pgns_advance (type_list s).value (tree_list s t).next (tree_list s t).value z,
      )

  tree_within : (t : ℕ) → (tree_start s t).at ≤ length s
  unfolding tree_start tree_list lookup_list type_list
  tree_within zero =
      (lookups_reader s (lookup_list s).value).within _
      ((number_reader s).within _
      ((types_reader s (type_list s).value).within _ ((number_reader s).within _ ((version_reader s).within (fresh 0) (omega arith)))))
  tree_within (suc t) = (tree_reader s (type_list s).value).within (tree_start s t) (tree_within t)

  -- no more records than bytes
  pub before_few : (pack_end s).refused ≡ 0 → (t : ℕ) → t ≤ 3 → length (before s t) ≤ length s
  before_few a t h = omega (arith, before_advance a t h, tree_within t)

-- an input refusal is one of 1 to 8, at an offset within the pack
module _ (s : List ℕ) where
  tree_numbered : (t : ℕ) → (tree_start s t).refused ≤ 8
  unfolding tree_start tree_list lookup_list type_list
  tree_numbered zero =
      (lookups_reader s (lookup_list s).value).numbered _
      ((number_reader s).numbered _
      ((types_reader s (type_list s).value).numbered _ ((number_reader s).numbered _ ((version_reader s).numbered (fresh 0) (omega arith)))))
  tree_numbered (suc t) = (tree_reader s (type_list s).value).numbered (tree_start s t) (tree_numbered t)

  pub input_bound : ((pack_end s).refused ≤ 8) × ((pack_end s).at ≤ length s)
  unfolding pack_end finish
  input_bound =
      let c = tree_start s 3 in
      let P : Cursor → Type 0 = λ d. (d.refused ≤ 8) × (d.at ≤ length s) in
      let h : P c = (tree_numbered 3, tree_within s 3) in
      if_all P (c.refused == 0) _ _ (λ _. if_all P (c.at <ᵇ length s) _ _ (λ _. (omega arith, h.1)) (λ _. h)) (λ _. h)

-- "how many records": no more than bytes
pub records_bound : (s w : List ℕ) → Ready s w → (length (offsets s) ≤ length s) × (length s ≤ most_bytes)
unfolding offsets
records_bound s w r =
    let a = accepted_end s r.accepted in
    (before_few s a.0 3 (omega arith), a.1)

-- ---- every offset is within the pack

record AllWithin (m : ℕ) (xs : List ℕ) : Type 0 where
  at_index : (k : ℕ) → get_or xs k 0 ≤ m

all_none : (m : ℕ) → AllWithin m []
all_none m = record { at_index = λ k. omega arith }

all_cons : {m x : ℕ} {xs : List ℕ} → x ≤ m → AllWithin m xs → AllWithin m (x ∷ xs)
all_cons {m} {x} {xs} h a = record { at_index = go }
  where
    go : (k : ℕ) → get_or (x ∷ xs) k 0 ≤ m
    go zero = h
    go (suc k) = a.at_index k

all_one : {m x : ℕ} → x ≤ m → AllWithin m (x ∷ [])
all_one {m} h = all_cons h (all_none m)

all_append : (m : ℕ) (xs ys : List ℕ) → AllWithin m xs → AllWithin m ys → AllWithin m (xs ++ ys)
all_append m [] ys a b = b
all_append m (x ∷ xs) ys a b = all_cons (a.at_index 0) (all_append m xs ys (record { at_index = λ k. a.at_index (suc k) }) b)

all_concat : {m : ℕ} {f : ℕ → List ℕ} → ((i : ℕ) → AllWithin m (f i)) → (n : ℕ) → AllWithin m (concat_below f n)
all_concat {m} a zero = all_none m
all_concat {m} {f} a (suc n) = all_append m (concat_below f n) (f n) (all_concat a n) (a n)

module _ (s : List ℕ) where
  lookup_within : (c : Cursor) → c.at ≤ length s → (n : ℕ) → (lookups s c n).next.at ≤ length s
  lookup_within c h n = (lookups_reader s n).within c h

  lookup_records_within : (a : LookupState) → a.next.at ≤ length s → AllWithin (length s) (lookup_records s a)
  unfolding lookup_records entry_offsets
  lookup_records_within a h =
      let l = read_lookup a.before s a.next in
      all_cons h
      (all_concat (λ j. all_one ((entries_reader s l.value.kind j).within l.next ((lookup_reader s a.before).within a.next h))) l.value.entries)

  pgn_records_within : (k : ℕ) (c : Cursor) → c.at ≤ length s → AllWithin (length s) (pgn_records k s c)
  unfolding pgn_records field_offsets
  pgn_records_within k c h =
      all_cons h
      (all_concat (λ j. all_one ((fields_reader s k j).within (read_pgn s c).next ((pgn_reader s).within c h))) (read_pgn s c).value.fields)

  tree_part_within : (t : ℕ) → AllWithin (length s) (tree_part s t)
  unfolding pgn_offsets tree_list
  tree_part_within t =
      let c = (number_reader s).within (tree_start s t) (tree_within s t) in
      all_concat (λ i. pgn_records_within (type_list s).value (pgn_start s t i) ((pgns_reader s (type_list s).value i).within (tree_list s t).next c))
      (tree_list s t).value

  before_within : (t : ℕ) → AllWithin (length s) (before s t)
  unfolding before type_offsets lookup_offsets type_list lookup_list
  before_within zero =
      let c = (number_reader s).within _ ((version_reader s).within (fresh 0) (omega arith)) in
      let d = (number_reader s).within _ ((types_reader s (type_list s).value).within (type_list s).next c) in
      all_append (length s) (type_part s) (lookup_part s)
      (all_concat (λ i. all_one ((types_reader s i).within (type_list s).next c)) (type_list s).value)
      (all_concat (λ i. lookup_records_within (lookup_start s i) (lookup_within (lookup_list s).next d i)) (lookup_list s).value)
  before_within (suc t) = all_append (length s) (before s t) (tree_part s t) (before_within t) (tree_part_within t)

  pub offsets_bound : (k : ℕ) → get_or (offsets s) k 0 ≤ length s
  unfolding offsets
  offsets_bound = (before_within 3).at_index
