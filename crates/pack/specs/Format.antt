-- The pack as a whole: its lists of records one after the other, where each record begins, and how far reading gets.
use Rattle.pack.specs.Items.{Cursor, Item}
use Rattle.std.specs.Prelude.{ℕ, zero, suc, ◌+◌, List, ◌∷◌, ◌++◌}
use Rattle.std.specs.Prelude.{Option, None, Some}
use Rattle.pack.specs.Notation.{concat_below, tab}
use Rattle.pack.specs.Items.{fresh, read_number, read_version, finish}
use Rattle.pack.specs.Records.{read_type, read_entry, read_lookup, read_pgn, read_field}
use Rattle.pack.specs.declared.kinds.LookupKind.{LookupKind}
use Rattle.pack.specs.declared.text.Text.{Text}

-- "A list is a count, then its records": f, n times
abbrev pub iter : {A : Type 0} → (A → A) → A → ℕ → A
iter f a zero = a
iter f a (suc n) = f (iter f a n)

-- ---- field types

abbrev pub type_next : List ℕ → Cursor → Cursor
type_next s c = (read_type s c).next

-- after n field types from c on
unfoldable pub types : List ℕ → Cursor → ℕ → Cursor
types s c n = iter (type_next s) c n

unfoldable pub type_offsets : List ℕ → Cursor → ℕ → List ℕ
type_offsets s c n = tab (λ i. (types s c i).at) n

-- ---- lookups, each with its entries behind it

abbrev pub entry_next : LookupKind → List ℕ → Cursor → Cursor
entry_next kind s c = (read_entry kind s c).next

-- after n entries of a lookup of that kind
unfoldable pub entries : LookupKind → List ℕ → Cursor → ℕ → Cursor
entries kind s c n = iter (entry_next kind s) c n

unfoldable pub entry_offsets : LookupKind → List ℕ → Cursor → ℕ → List ℕ
entry_offsets kind s c n = tab (λ j. (entries kind s c j).at) n

-- between two lookups: the cursor, and the name of the lookup before it, if there is one
pub record LookupState : Type 0 where
  pub next : Cursor
  pub before : Option Text

-- past a lookup and its entries
unfoldable pub lookup_next : List ℕ → LookupState → LookupState
lookup_next s a =
    let l = read_lookup a.before s a.next in
    record {
      next = entries l.value.kind s l.next l.value.entries;
      before = Some l.value.name;
    }

-- after n lookups from c on
unfoldable pub lookups : List ℕ → Cursor → ℕ → LookupState
lookups s c n = iter (lookup_next s) (record { next = c; before = None }) n

-- where a lookup and its entries begin
unfoldable pub lookup_records : List ℕ → LookupState → List ℕ
lookup_records s a =
    let l = read_lookup a.before s a.next in
    a.next.at ∷ entry_offsets l.value.kind s l.next l.value.entries

unfoldable pub lookup_offsets : List ℕ → Cursor → ℕ → List ℕ
lookup_offsets s c n = concat_below (λ i. lookup_records s (lookups s c i)) n

-- ---- PGNs, each with its fields behind it

-- between two fields of a PGN: the cursor, and "a PGN's `res_bits` together" so far
pub record FieldState : Type 0 where
  pub next : Cursor
  pub total : ℕ

-- past a field, in a pack of k field types
unfoldable pub field_next : ℕ → List ℕ → FieldState → FieldState
field_next k s a =
    let f = read_field k a.total s a.next in record { next = f.next; total = a.total + f.value.scaling.bits }

-- after n fields of a PGN from c on
unfoldable pub fields : ℕ → List ℕ → Cursor → ℕ → FieldState
fields k s c n = iter (field_next k s) (record { next = c; total = 0 }) n

unfoldable pub field_offsets : ℕ → List ℕ → Cursor → ℕ → List ℕ
field_offsets k s c n = tab (λ j. (fields k s c j).next.at) n

-- past a PGN and its fields
unfoldable pub pgn_next : ℕ → List ℕ → Cursor → Cursor
pgn_next k s c = let p = read_pgn s c in (fields k s p.next p.value.fields).next

-- after n PGNs from c on
unfoldable pub pgns : ℕ → List ℕ → Cursor → ℕ → Cursor
pgns k s c n = iter (pgn_next k s) c n

-- where a PGN and its fields begin
unfoldable pub pgn_records : ℕ → List ℕ → Cursor → List ℕ
pgn_records k s c = let p = read_pgn s c in c.at ∷ field_offsets k s p.next p.value.fields

unfoldable pub pgn_offsets : ℕ → List ℕ → Cursor → ℕ → List ℕ
pgn_offsets k s c n = concat_below (λ i. pgn_records k s (pgns k s c i)) n

-- ---- "Pack: version; list of field types; list of lookups; three lists of PGNs"

-- each list's count, and the cursor behind it
unfoldable pub type_list : List ℕ → Item ℕ
type_list s = read_number s (read_version s (fresh 0)).next

unfoldable pub lookup_list : List ℕ → Item ℕ
lookup_list s = read_number s (types s (type_list s).next (type_list s).value)

-- where tree t begins
unfoldable pub tree_start : List ℕ → ℕ → Cursor
tree_start s zero = (lookups s (lookup_list s).next (lookup_list s).value).next
tree_start s (suc t) = let n = read_number s (tree_start s t) in pgns (type_list s).value s n.next n.value

unfoldable pub tree_list : List ℕ → ℕ → Item ℕ
tree_list s t = read_number s (tree_start s t)

-- how far reading gets: the end of the pack, or the first offending item
unfoldable pub pack_end : List ℕ → Cursor
pack_end s = finish s (tree_start s 3)

-- the cursor at field type i, the state at lookup i, the cursor at PGN i of tree t
abbrev pub type_start : List ℕ → ℕ → Cursor
type_start s i = types s (type_list s).next i

abbrev pub lookup_start : List ℕ → ℕ → LookupState
lookup_start s i = lookups s (lookup_list s).next i

abbrev pub pgn_start : List ℕ → ℕ → ℕ → Cursor
pgn_start s t i = pgns (type_list s).value s (tree_list s t).next i

-- ---- "the offset of each record (field type, lookup, lookup entry, PGN, field) as they stand in the pack"

abbrev pub type_part : List ℕ → List ℕ
type_part s = type_offsets s (type_list s).next (type_list s).value

abbrev pub lookup_part : List ℕ → List ℕ
lookup_part s = lookup_offsets s (lookup_list s).next (lookup_list s).value

abbrev pub tree_part : List ℕ → ℕ → List ℕ
tree_part s t = pgn_offsets (type_list s).value s (tree_list s t).next (tree_list s t).value

-- the records before tree t
unfoldable pub before : List ℕ → ℕ → List ℕ
before s zero = type_part s ++ lookup_part s
before s (suc t) = before s t ++ tree_part s t

unfoldable pub offsets : List ℕ → List ℕ
offsets s = before s 3
