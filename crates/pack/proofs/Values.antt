-- The records of the pack's value, by index.
use Rattle.pack.specs.Items.{Cursor, Item}
use Prim.Native.Nat.{ℕ, zero, suc, ◌+◌, ◌≤◌, ◌<◌}
use native.Mathlib.Omega.{arith}
use mathlib.Core.Path.{◌≡◌, refl, ap}
use mathlib.Core.List.{List}
use lib.ListN.{length, get_or, length-append}
use Rattle.pack.specs.Value.{pgns_of, no_field_type, no_entry, no_lookup, no_field, no_pgn, pgn_at, field_at, lookup_at}
use Rattle.pack.specs.Records.{read_entry, read_lookup, read_pgn, read_field}
use Rattle.pack.specs.Format.{types, type_offsets, entries, entry_offsets, LookupState, lookup_records, lookup_offsets, fields, field_offsets}
use Rattle.pack.specs.Format.{pgn_records, pgn_offsets, type_list, lookup_list, tree_list, type_part, lookup_part, tree_part, before}
use Rattle.pack.specs.Format.{lookup_start, pgn_start}
use Rattle.pack.specs.Meaning.{type_of_pack, lookup_of_pack, pgn_of_pack, tree_of_pack, pack_of, entry_meaning, field_meaning}
use Rattle.pack.specs.Ready.{place_of_lookup, pgn_records_below, place_of_tree}
use Rattle.pack.proofs.Tables.{length_tab, getD_tab}
use Rattle.pack.specs.declared.lookup.LookupView.{LookupView}
use Rattle.pack.specs.declared.pgn.PgnView.{PgnView}

module _ (s : List ℕ) where
  pub types_are : length (pack_of s).fieldtypes ≡ (type_list s).value
  unfolding pack_of
  types_are = length_tab (type_of_pack s) (type_list s).value

  pub type_is : (i : ℕ) → i < (type_list s).value → get_or (pack_of s).fieldtypes i no_field_type ≡ type_of_pack s i
  unfolding pack_of
  type_is i h = getD_tab (type_of_pack s) no_field_type (type_list s).value i h

  pub lookups_are : length (pack_of s).lookups ≡ (lookup_list s).value
  unfolding pack_of
  lookups_are = length_tab (lookup_of_pack s) (lookup_list s).value

  pub lookup_is : (i : ℕ) → i < (lookup_list s).value → lookup_at (pack_of s).lookups i ≡ lookup_of_pack s i
  unfolding pack_of
  lookup_is i h = getD_tab (lookup_of_pack s) no_lookup (lookup_list s).value i h

  pub tree_is : (t : ℕ) → t < 3 → pgns_of (pack_of s) t ≡ tree_of_pack s t
  unfolding pack_of
  tree_is zero h = refl
  tree_is (suc zero) h = refl
  tree_is (suc (suc zero)) h = refl
  tree_is (suc (suc (suc t))) h = absurd (omega arith)

  pub pgns_are : (t : ℕ) → t < 3 → length (pgns_of (pack_of s) t) ≡ (tree_list s t).value
  unfolding tree_of_pack
  pgns_are t h = rw (tree_is t h) (length_tab (pgn_of_pack s t) (tree_list s t).value)

  pub pgn_is : (t i : ℕ) → t < 3 → i < (tree_list s t).value → pgn_at (pack_of s) t i ≡ pgn_of_pack s t i
  unfolding tree_of_pack
  pgn_is t i h l = rw (tree_is t h) (getD_tab (pgn_of_pack s t) no_pgn (tree_list s t).value i l)

  -- the head of lookup i, and of PGN i of tree t
  abbrev pub lookup_head : ℕ → Item LookupView
  lookup_head i = read_lookup (lookup_start s i).before s (lookup_start s i).next

  abbrev pub pgn_head : ℕ → ℕ → Item PgnView
  pgn_head t i = read_pgn s (pgn_start s t i)

  pub entries_are : (i : ℕ) → i < (lookup_list s).value → length (lookup_at (pack_of s).lookups i).entries ≡ (lookup_head i).value.entries
  unfolding lookup_of_pack
  entries_are i h = rw (lookup_is i h) (length_tab _ (lookup_head i).value.entries)

  pub entry_is : (i j : ℕ) → i < (lookup_list s).value → j < (lookup_head i).value.entries
      → get_or (lookup_at (pack_of s).lookups i).entries j no_entry ≡ entry_meaning s
      (read_entry (lookup_head i).value.kind s (entries (lookup_head i).value.kind s (lookup_head i).next j)).value
  unfolding lookup_of_pack
  entry_is i j h l = rw (lookup_is i h) (getD_tab _ no_entry (lookup_head i).value.entries j l)

  pub fields_are : (t i : ℕ) → t < 3 → i < (tree_list s t).value → length (pgn_at (pack_of s) t i).fields ≡ (pgn_head t i).value.fields
  unfolding pgn_of_pack
  fields_are t i h l = rw (pgn_is t i h l) (length_tab _ (pgn_head t i).value.fields)

  pub field_is : (t i j : ℕ) → t < 3 → i < (tree_list s t).value → j < (pgn_head t i).value.fields
      → field_at (pgn_at (pack_of s) t i) j ≡
      (let a = fields (type_list s).value s (pgn_head t i).next j in field_meaning s (read_field (type_list s).value a.total s a.next).value)
  unfolding pgn_of_pack
  field_is t i j h l m = rw (pgn_is t i h l) (getD_tab _ no_field (pgn_head t i).value.fields j m)

  -- ---- work positions

  pub length_types : (c : Cursor) (n : ℕ) → length (type_offsets s c n) ≡ n
  unfolding type_offsets
  length_types c n = length_tab (λ i. (types s c i).at) n

  pub length_lookup : (a : LookupState) → length (lookup_records s a) ≡ suc (read_lookup a.before s a.next).value.entries
  unfolding lookup_records entry_offsets
  length_lookup a = ap suc (length_tab _ (read_lookup a.before s a.next).value.entries)

  pub length_pgn : (k : ℕ) (c : Cursor) → length (pgn_records k s c) ≡ suc (read_pgn s c).value.fields
  unfolding pgn_records field_offsets
  length_pgn k c = ap suc (length_tab _ (read_pgn s c).value.fields)

  pub lookup_place : (i : ℕ) → i ≤ (lookup_list s).value
      → place_of_lookup (pack_of s) i ≡ length (type_part s) + length (lookup_offsets s (lookup_list s).next i)
  unfolding lookup_offsets
  lookup_place zero h = omega (arith, types_are, length_types (type_list s).next (type_list s).value)
  lookup_place (suc i) h =
      omega (
        arith,
        lookup_place i (omega arith),
        entries_are i h,
        length-append (lookup_offsets s (lookup_list s).next i) (lookup_records s (lookup_start s i)),
        length_lookup (lookup_start s i),
      )

  pub pgns_below : (t i : ℕ) → t < 3 → i ≤ (tree_list s t).value
      → pgn_records_below (pgns_of (pack_of s) t) i ≡ length (pgn_offsets (type_list s).value s (tree_list s t).next i)
  unfolding pgn_offsets
  pgns_below t zero h l = refl
  pgns_below t (suc i) h l =
      omega (
        arith,
        pgns_below t i h (omega arith),
        fields_are t i h l,
        length-append (pgn_offsets (type_list s).value s (tree_list s t).next i) (pgn_records (type_list s).value s (pgn_start s t i)),
        length_pgn (type_list s).value (pgn_start s t i),
      )

  pub tree_place : (t : ℕ) → t ≤ 3 → place_of_tree (pack_of s) t ≡ length (before s t)
  unfolding before
  tree_place zero h =
      let e : place_of_lookup (pack_of s) (length (pack_of s).lookups) ≡ place_of_lookup (pack_of s) (lookup_list s).value = rw lookups_are in
      omega (arith, e, lookup_place (lookup_list s).value (omega arith), length-append (type_part s) (lookup_part s))
  tree_place (suc t) h =
      let e : pgn_records_below (pgns_of (pack_of s) t) (length (pgns_of (pack_of s) t))
      ≡ pgn_records_below (pgns_of (pack_of s) t) (tree_list s t).value = rw (pgns_are t h) in
      omega (arith, e, tree_place t (omega arith), pgns_below t (tree_list s t).value h (omega arith), length-append (before s t) (tree_part s t))
