-- What the layers above go by: the record at a record's work position means that record of the pack's value.
use Rattle.pack.specs.Items.{Cursor, Item}
use Rattle.std.specs.Prelude.{None, ◌==◌}
use Prim.Native.Nat.{ℕ, zero, suc, ◌+◌, ◌-◌, ◌≤◌, ◌<◌}
use native.Mathlib.Omega.{arith}
use mathlib.Core.Path.{◌≡◌, refl, ap, ◌∙◌, sym}
use mathlib.Core.List.{List}
use lib.ListN.{length, get_or, take, length-append, length-take, get_or-append}
use lib.Seq.{get_or-append-add, get_or-take}
use Rattle.pack.specs.Notation.{concat_below}
use Rattle.pack.specs.Value.{Lookup, Field, Pgn, no_field_type, no_entry, pgn_at, field_at, lookup_at}
use Rattle.pack.specs.Items.{◌▷◌, give, fresh, bytes_of, read_number, read_text, read_name, read_index, read_code}
use Rattle.pack.specs.Records.{read_type, read_entry, read_lookup, read_names, read_scaling, read_authored, read_pgn, read_field, read_second_text}
use Rattle.pack.specs.Format.{types, type_offsets, entries, entry_offsets, lookup_records, lookup_offsets, FieldState, field_next, fields}
use Rattle.pack.specs.Format.{field_offsets, pgn_records, pgn_offsets, type_list, lookup_list, tree_list, type_part, lookup_part, tree_part}
use Rattle.pack.specs.Format.{before, offsets}
use Rattle.pack.specs.Format.{type_start, lookup_start, pgn_start, pack_end}
use Rattle.pack.specs.Meaning.{type_meaning, entry_meaning, field_meaning, type_of_pack, lookup_of_pack, pgn_of_pack, pack_of}
use Rattle.pack.specs.Ready.{Ready, place_of_lookup, place_of_pgn, LookupAt, PgnAt, LookupIs, PgnIs, Stands}
use Rattle.pack.specs.Kinds.{kind_number}
use Rattle.pack.proofs.KindLaws.{kind_once}
use Rattle.pack.specs.declared.kinds.LookupKind.{LookupKind}
use Rattle.pack.specs.declared.field.FieldView.{FieldView}
use Rattle.pack.specs.declared.text.Text.{Text}
use Rattle.pack.proofs.Tables.{length_concat_below, getD_concat_below, getD_tab}
use Rattle.pack.proofs.Bounds.{offsets_bound}
use Rattle.pack.proofs.Reading.{if_all, number_fits, back, number_reader, text_reader, index_reader, code_reader, scaling_reader, authored_reader, links_reader}
use Rattle.pack.proofs.Places.{types_turn, entries_turn, fields_turn}
use Rattle.pack.proofs.Free.{index_below, lookup_free, field_free}
use Rattle.pack.proofs.Clean.{fresh_at, accepted_end, pgn_clean, field_clean, lookup_clean, entry_clean, type_clean}
use Rattle.pack.proofs.Sets.{places_read}
use Rattle.pack.proofs.Values.{types_are, type_is, lookups_are, lookup_is, pgns_are, pgn_is, lookup_head, pgn_head, entries_are, entry_is, fields_are}
use Rattle.pack.proofs.Values.{field_is, length_types, length_lookup, length_pgn, lookup_place, pgns_below, tree_place}

module _ (s : List ℕ) where
  -- what stands before tree t stands there in the whole, d trees further on
  before_grows : (d t : ℕ) → length (before s t) ≤ length (before s (d + t))
  unfolding before
  before_grows zero t = let e : 0 + t ≡ t = omega arith in rw e (omega arith)
  before_grows (suc d) t = let e : suc d + t ≡ suc (d + t) = omega arith in rw e
      (omega (arith, before_grows d t, length-append (before s (d + t)) (tree_part s (d + t))))

  in_before : (d t k : ℕ) → k < length (before s t) → get_or (before s (d + t)) k 0 ≡ get_or (before s t) k 0
  unfolding before
  in_before zero t k h = let e : 0 + t ≡ t = omega arith in rw e
  in_before (suc d) t k h =
      let e : suc d + t ≡ suc (d + t) = omega arith in
      rw e (get_or-append (before s (d + t)) (tree_part s (d + t)) 0 k (omega (arith, before_grows d t)) ∙ in_before d t k h)

  in_all : (t k : ℕ) → t ≤ 3 → k < length (before s t) → get_or (offsets s) k 0 ≡ get_or (before s t) k 0
  unfolding offsets
  in_all t k l h = let e : 3 - t + t ≡ 3 = omega arith in rw e at (in_before (3 - t) t k h)

  all_of : (t : ℕ) → t ≤ 3 → length (before s t) ≤ length (offsets s)
  unfolding offsets
  all_of t l = let e : 3 - t + t ≡ 3 = omega arith in rw e at (before_grows (3 - t) t)

  type_offset : (i : ℕ) → i < (type_list s).value → (get_or (offsets s) i 0 ≡ (type_start s i).at) × (i < length (offsets s))
  unfolding before type_offsets
  type_offset i h =
      let l = length_types s (type_list s).next (type_list s).value in
      let m = length-append (type_part s) (lookup_part s) in (
        in_all 0 i (omega arith) (omega arith) ∙ get_or-append (type_part s) (lookup_part s) 0 i (omega arith)
            ∙ getD_tab (λ j. (types s (type_list s).next j).at) 0 (type_list s).value i h,
        omega (arith, all_of 0 (omega arith)),
      )

  -- record j of lookup i with its entries
  lookup_offset : (i j : ℕ) → i < (lookup_list s).value → j < length (lookup_records s (lookup_start s i))
      → (get_or (offsets s) (place_of_lookup (pack_of s) i + j) 0 ≡ get_or (lookup_records s (lookup_start s i)) j 0)
      × (place_of_lookup (pack_of s) i + length (lookup_records s (lookup_start s i)) ≤ length (offsets s))
  unfolding before lookup_offsets
  lookup_offset i j h l =
      let f : ℕ → List ℕ = λ n. lookup_records s (lookup_start s n) in
      let p = lookup_place s i (omega arith) in
      let m = length-append (type_part s) (lookup_part s) in
      let b = length_concat_below f (lookup_list s).value i h in
      let e : place_of_lookup (pack_of s) i + j ≡ length (type_part s) + (length (concat_below f i) + j) = omega arith in (
        rw e
            (in_all 0 (length (type_part s) + (length (concat_below f i) + j)) (omega arith) (omega arith)
            ∙ get_or-append-add (type_part s) (lookup_part s) (length (concat_below f i) + j) 0
            ∙ getD_concat_below f 0 (lookup_list s).value i j h l),
        omega (arith, all_of 0 (omega arith)),
      )

  -- record j of PGN i of tree t with its fields
  pgn_offset : (t i j : ℕ) → t < 3 → i < (tree_list s t).value → j < length (pgn_records (type_list s).value s (pgn_start s t i))
      → (get_or (offsets s) (place_of_pgn (pack_of s) t i + j) 0 ≡ get_or (pgn_records (type_list s).value s (pgn_start s t i)) j 0)
      × (place_of_pgn (pack_of s) t i + length (pgn_records (type_list s).value s (pgn_start s t i)) ≤ length (offsets s))
  unfolding before pgn_offsets
  pgn_offset t i j h k l =
      let f : ℕ → List ℕ = λ n. pgn_records (type_list s).value s (pgn_start s t n) in
      let p = pgns_below s t i h (omega arith) in
      let q = tree_place s t (omega arith) in
      let m = length-append (before s t) (tree_part s t) in
      let b = length_concat_below f (tree_list s t).value i k in
      let e : place_of_pgn (pack_of s) t i + j ≡ length (before s t) + (length (concat_below f i) + j) = omega arith in (
        rw e
            (in_all (suc t) (length (before s t) + (length (concat_below f i) + j)) (omega arith) (omega arith)
            ∙ get_or-append-add (before s t) (tree_part s t) (length (concat_below f i) + j) 0
            ∙ getD_concat_below f 0 (tree_list s t).value i j k l),
        omega (arith, all_of (suc t) (omega arith)),
      )

module _ (s w : List ℕ) (r : Ready s w) where
  clean_end : (pack_end s).refused ≡ 0
  clean_end = (accepted_end s r.accepted).0

  at_work : (k : ℕ) → k < length (offsets s) → get_or w k 0 ≡ get_or (offsets s) k 0
  at_work k h = sym (get_or-take (length (offsets s)) w k 0 h) ∙ ap (λ (l : List ℕ). get_or l k 0) r.begins

  pub records_fit : length (offsets s) ≤ length w
  records_fit = let t : length (take (length (offsets s)) w) ≡ length (offsets s) = ap length r.begins in omega (arith, length-take (length (offsets s)) w)

  -- a record's offset is in the work list, and in the pack
  pub record_listed : (k : ℕ) → k < length (offsets s) → k < length w
  record_listed k h = omega (arith, records_fit, h)

  pub record_inside : (k : ℕ) → k < length (offsets s) → get_or w k 0 ≤ length s
  record_inside k h = omega (arith, at_work k h, offsets_bound s k)

  -- at the cursor c, which the offset k stands for
  stands : (k : ℕ) (c : Cursor) (next : Cursor → Cursor) → k < length (offsets s) → fresh (get_or w k 0) ≡ c → (next c).refused ≡ 0 → Stands s w k next
  stands k c next h e z =
      record { place = record_listed k h; inside = record_inside k h; clean = rw e z }

  type_cursor : (i : ℕ) → i < (type_list s).value → fresh (get_or w i 0) ≡ type_start s i
  type_cursor i l =
      let o = type_offset s i l in
      ap fresh (at_work i o.1 ∙ o.0) ∙ sym (fresh_at (type_start s i) (type_clean s clean_end i (omega arith)))

  pub type_stands : (i : ℕ) → i < length (pack_of s).fieldtypes → Stands s w i (λ c. (read_type s c).next)
  type_stands i h =
      let l : i < (type_list s).value = omega (arith, types_are s) in
      stands i (type_start s i) (λ c. (read_type s c).next) (type_offset s i l).1 (type_cursor i l)
      (rw (← types_turn s (type_list s).next i) (type_clean s clean_end (i + 1) (omega arith)))

  pub type_law : (i : ℕ) → i < length (pack_of s).fieldtypes
      → type_meaning s (read_type s (fresh (get_or w i 0))).value ≡ get_or (pack_of s).fieldtypes i no_field_type
  unfolding type_of_pack
  type_law i h =
      let l : i < (type_list s).value = omega (arith, types_are s) in
      rw (type_cursor i l) (sym (type_is s i l))

-- a name with none before it
name_first : (s : List ℕ) (c : Cursor) → read_name None s c ≡ read_text s c
unfolding read_name
name_first s c = if_all (λ (t : Item Text). t ≡ read_text s c) ((read_text s c).next.refused == 0) _ _ (λ _. refl) (λ _. refl)

module _ {s w : List ℕ} {i p : ℕ} (a : LookupAt s w i p) where
  listed : i < (lookup_list s).value
  listed = omega (arith, lookups_are s, a.lookup)

  lookup_head_clean : (lookup_head s i).next.refused ≡ 0
  unfolding entries
  lookup_head_clean = entry_clean s (clean_end s w a.ready) i 0 listed (omega arith)

  lookup_cursor : fresh (get_or w p 0) ≡ (lookup_start s i).next
  unfolding lookup_records
  lookup_cursor =
      let o = lookup_offset s i 0 listed (omega (arith, length_lookup s (lookup_start s i))) in
      let e : place_of_lookup (pack_of s) i + 0 ≡ p = omega (arith, a.place) in
      let l = length_lookup s (lookup_start s i) in
      let x : get_or w p 0 ≡ (lookup_start s i).next.at = at_work s w a.ready p (omega (arith, o.1)) ∙ (rw e at o.0) in
      ap fresh x ∙ sym (fresh_at (lookup_start s i).next (lookup_clean s (clean_end s w a.ready) i (omega (arith, listed))))

  lookup_view : read_lookup None s (fresh (get_or w p 0)) ≡ lookup_head s i
  lookup_view = rw lookup_cursor (sym (lookup_free s (lookup_start s i).next (lookup_start s i).before lookup_head_clean))

  pub lookup_listed : p < length (offsets s)
  lookup_listed =
      let o = (lookup_offset s i 0 listed (omega (arith, length_lookup s (lookup_start s i)))).1 in
      let l = length_lookup s (lookup_start s i) in
      omega (arith, a.place)

  pub lookup_stands : Stands s w p (λ c. (read_lookup None s c).next)
  lookup_stands = stands s w a.ready p (fresh (get_or w p 0)) _ lookup_listed refl (rw lookup_view lookup_head_clean)

  pub lookup_name_stands : Stands s w p (λ c. (read_text s c).next)
  unfolding read_lookup ◌▷◌ give
  lookup_name_stands =
      let f = lookup_stands in
      let n = (read_name None s (fresh (get_or w p 0))).next in
      let z : n.refused ≡ 0 = back (code_reader s 3) n (back (number_reader s) _ (back (number_reader s) _ f.clean)) in
      record { place = f.place; inside = f.inside; clean = rw (name_first s (fresh (get_or w p 0))) at z }

  pub lookup_room : p + 1 + length (lookup_at (pack_of s).lookups i).entries ≤ length w
  lookup_room =
      let l = length_lookup s (lookup_start s i) in
      omega (arith, a.place, entries_are s i listed, (lookup_offset s i 0 listed (omega arith)).1, records_fit s w a.ready)

  pub lookup_law : LookupIs s (lookup_at (pack_of s).lookups i) (read_lookup None s (fresh (get_or w p 0))).value
  unfolding lookup_of_pack
  lookup_law = rw lookup_view (record { means = (rw (lookup_is s i listed)); entries = sym (entries_are s i listed) })

  pub lookup_name_law : bytes_of s (read_text s (fresh (get_or w p 0))).value ≡ (lookup_at (pack_of s).lookups i).name
  unfolding read_lookup ◌▷◌ give
  lookup_name_law =
      let e : bytes_of s (read_lookup None s (fresh (get_or w p 0))).value.name ≡ (lookup_at (pack_of s).lookups i).name
      = ap (λ (L : Lookup). L.name) lookup_law.means in
      rw (← name_first s (fresh (get_or w p 0))) e

  kind_is : (lookup_at (pack_of s).lookups i).kind ≡ kind_number (lookup_head s i).value.kind
  unfolding lookup_of_pack
  kind_is = rw (lookup_is s i listed)

  -- the kind of that number is the one that was read
  head_kind : (k : LookupKind) → kind_number k ≡ (lookup_at (pack_of s).lookups i).kind → k ≡ (lookup_head s i).value.kind
  head_kind k e = kind_once k (lookup_head s i).value.kind (e ∙ kind_is)

  entry_cursor : (j : ℕ) → j < length (lookup_at (pack_of s).lookups i).entries
      → (fresh (get_or w (p + 1 + j) 0) ≡ entries (lookup_head s i).value.kind s (lookup_head s i).next j) × (p + 1 + j < length (offsets s))
  unfolding lookup_records entry_offsets
  entry_cursor j h =
      let m : j < (lookup_head s i).value.entries = omega (arith, entries_are s i listed) in
      let l = length_lookup s (lookup_start s i) in
      let o = lookup_offset s i (suc j) listed (omega arith) in
      let e : place_of_lookup (pack_of s) i + suc j ≡ p + 1 + j = omega (arith, a.place) in
      let x : get_or w (p + 1 + j) 0 ≡ (entries (lookup_head s i).value.kind s (lookup_head s i).next j).at =
      at_work s w a.ready (p + 1 + j) (omega (arith, o.1)) ∙ (rw e at o.0)
      ∙ getD_tab (λ n. (entries (lookup_head s i).value.kind s (lookup_head s i).next n).at) 0 (lookup_head s i).value.entries j m in
      (ap fresh x ∙ sym (fresh_at _ (entry_clean s (clean_end s w a.ready) i j listed (omega arith))), omega (arith, o.1))

  pub entry_stands : (k : LookupKind) → kind_number k ≡ (lookup_at (pack_of s).lookups i).kind → (j : ℕ)
      → j < length (lookup_at (pack_of s).lookups i).entries → Stands s w (p + 1 + j) (λ c. (read_entry k s c).next)
  entry_stands kind e₀ j h =
      let m : j < (lookup_head s i).value.entries = omega (arith, entries_are s i listed) in
      let k = (lookup_head s i).value.kind in
      let e = entry_cursor j h in
      stands s w a.ready (p + 1 + j) (entries k s (lookup_head s i).next j) _ e.1 e.0
      (rw (head_kind kind e₀, ← entries_turn s (lookup_head s i).next k j) (entry_clean s (clean_end s w a.ready) i (j + 1) listed (omega arith)))

  pub entry_law : (k : LookupKind) → kind_number k ≡ (lookup_at (pack_of s).lookups i).kind → (j : ℕ)
      → j < length (lookup_at (pack_of s).lookups i).entries
      → entry_meaning s (read_entry k s (fresh (get_or w (p + 1 + j) 0))).value ≡ get_or (lookup_at (pack_of s).lookups i).entries j no_entry
  entry_law kind e₀ j h =
      let m : j < (lookup_head s i).value.entries = omega (arith, entries_are s i listed) in
      rw (head_kind kind e₀, (entry_cursor j h).0) (sym (entry_is s i j listed m))

types_fit : (s : List ℕ) → (type_list s).value ≤ 4294967295
unfolding type_list
types_fit s = number_fits s _

step_clean : (s : List ℕ) (k : ℕ) (st : FieldState) → (field_next k s st).next.refused ≡ 0 → (read_field k st.total s st.next).next.refused ≡ 0
unfolding field_next
step_clean s k st z = z

module _ {s w : List ℕ} {t i p : ℕ} (a : PgnAt s w t i p) where
  counted_pgn : i < (tree_list s t).value
  counted_pgn = omega (arith, pgns_are s t a.tree, a.pgn)

  pgn_view : read_pgn s (fresh (get_or w p 0)) ≡ pgn_head s t i
  unfolding pgn_records
  pgn_view =
      let l = length_pgn s (type_list s).value (pgn_start s t i) in
      let o = pgn_offset s t i 0 a.tree counted_pgn (omega arith) in
      let e : place_of_pgn (pack_of s) t i + 0 ≡ p = omega (arith, a.place) in
      let x : get_or w p 0 ≡ (pgn_start s t i).at = at_work s w a.ready p (omega (arith, o.1)) ∙ (rw e at o.0) in
      let y : fresh (get_or w p 0) ≡ pgn_start s t i = ap fresh x ∙ sym
      (fresh_at (pgn_start s t i) (pgn_clean s (clean_end s w a.ready) t i a.tree (omega (arith, counted_pgn)))) in
      rw y

  pub pgn_listed : p < length (offsets s)
  pgn_listed =
      let l = length_pgn s (type_list s).value (pgn_start s t i) in
      let o = (pgn_offset s t i 0 a.tree counted_pgn (omega arith)).1 in
      omega (arith, a.place)

  pub pgn_stands : Stands s w p (λ c. (read_pgn s c).next)
  unfolding fields
  pgn_stands =
      stands s w a.ready p (fresh (get_or w p 0)) _ pgn_listed refl
      (rw pgn_view (field_clean s (clean_end s w a.ready) t i 0 a.tree counted_pgn (omega arith)))

  pub pgn_room : p + 1 + length (pgn_at (pack_of s) t i).fields ≤ length w
  pgn_room =
      let l = length_pgn s (type_list s).value (pgn_start s t i) in
      omega (arith, a.place, fields_are s t i a.tree counted_pgn, (pgn_offset s t i 0 a.tree counted_pgn (omega arith)).1, records_fit s w a.ready)

  pub pgn_law : PgnIs s (pgn_at (pack_of s) t i) (read_pgn s (fresh (get_or w p 0))).value
  unfolding pgn_of_pack
  pgn_law = rw pgn_view (record {
    means = (rw (pgn_is s t i a.tree counted_pgn));
    fields = sym (fields_are s t i a.tree counted_pgn);
    places = omega (arith, places_read s (pgn_start s t i));
  })

  pub pgn_number_law : (read_number s (fresh (get_or w p 0))).value ≡ (pgn_at (pack_of s) t i).pgn
  unfolding read_pgn ◌▷◌ give
  pgn_number_law = ap (λ (G : Pgn). G.pgn) pgn_law.means

  -- the state before field j
  abbrev before_field : ℕ → FieldState
  before_field j = fields (type_list s).value s (pgn_head s t i).next j

  field_cursor : (j : ℕ) → j < length (pgn_at (pack_of s) t i).fields
      → (fresh (get_or w (p + 1 + j) 0) ≡ (before_field j).next) × (p + 1 + j < length (offsets s))
  unfolding pgn_records field_offsets
  field_cursor j h =
      let k = (type_list s).value in
      let m : j < (pgn_head s t i).value.fields = omega (arith, fields_are s t i a.tree counted_pgn) in
      let l = length_pgn s k (pgn_start s t i) in
      let o = pgn_offset s t i (suc j) a.tree counted_pgn (omega arith) in
      let e : place_of_pgn (pack_of s) t i + suc j ≡ p + 1 + j = omega (arith, a.place) in
      let x : get_or w (p + 1 + j) 0 ≡ (before_field j).next.at = at_work s w a.ready (p + 1 + j) (omega (arith, o.1)) ∙ (rw e at o.0)
      ∙ getD_tab (λ n. (fields k s (pgn_head s t i).next n).next.at) 0 (pgn_head s t i).value.fields j m in (
        ap fresh x ∙ sym (fresh_at (before_field j).next (field_clean s (clean_end s w a.ready) t i j a.tree counted_pgn (omega arith))),
        omega (arith, o.1),
      )

  -- by itself it reads as behind those before it
  field_free_here : (j : ℕ) → j < length (pgn_at (pack_of s) t i).fields
      → (read_field (type_list s).value (before_field j).total s (before_field j).next ≡ read_field 4294967296 0 s (before_field j).next)
      × ((read_field (type_list s).value (before_field j).total s (before_field j).next).next.refused ≡ 0)
  field_free_here j h =
      let k = (type_list s).value in
      let m : j < (pgn_head s t i).value.fields = omega (arith, fields_are s t i a.tree counted_pgn) in
      let st = before_field j in
      let z : (field_next k s st).next.refused ≡ 0 = rw (← fields_turn s (pgn_head s t i).next k j)
      (field_clean s (clean_end s w a.ready) t i (j + 1) a.tree counted_pgn (omega arith)) in
      (field_free s st.next k st.total (omega (arith, types_fit s)) (step_clean s k st z), step_clean s k st z)

  pub field_stands : (j : ℕ) → j < length (pgn_at (pack_of s) t i).fields → Stands s w (p + 1 + j) (λ c. (read_field 4294967296 0 s c).next)
  field_stands j h =
      let f = field_free_here j h in
      let e = field_cursor j h in
      stands s w a.ready (p + 1 + j) (before_field j).next _ e.1 e.0 (rw (← f.0) f.1)

  pub field_law : (j : ℕ) → j < length (pgn_at (pack_of s) t i).fields
      → field_meaning s (read_field 4294967296 0 s (fresh (get_or w (p + 1 + j) 0))).value ≡ field_at (pgn_at (pack_of s) t i) j
  field_law j h =
      let m : j < (pgn_head s t i).value.fields = omega (arith, fields_are s t i a.tree counted_pgn) in
      rw (field_cursor j h).0
      (ap (λ (f : Item FieldView). field_meaning s f.value) (sym (field_free_here j h).0) ∙ sym (field_is s t i j a.tree counted_pgn m))

  field_names_clean : (j : ℕ) → j < length (pgn_at (pack_of s) t i).fields → (read_names s (fresh (get_or w (p + 1 + j) 0))).next.refused ≡ 0
  unfolding read_field ◌▷◌ give
  field_names_clean j h =
      let n = (read_names s (fresh (get_or w (p + 1 + j) 0))).next in
      let sc = read_scaling 0 s (read_code 63 s (read_index 4294967296 s n).next).next in
      let z : sc.next.refused ≡ 0 =
      back (authored_reader s) sc.next (back (links_reader s sc.value.bits) (read_authored s sc.next).next (field_stands j h).clean) in
      back (index_reader s 4294967296) n (back (code_reader s 63) _ (back (scaling_reader s 0) _ z))

  pub field_name_stands : (j : ℕ) → j < length (pgn_at (pack_of s) t i).fields → Stands s w (p + 1 + j) (λ c. (read_second_text s c).next)
  unfolding read_names read_second_text ◌▷◌ give
  field_name_stands j h =
      let f = field_stands j h in
      record { place = f.place; inside = f.inside; clean = back (text_reader s) _ (field_names_clean j h) }

  pub field_id_stands : (j : ℕ) → j < length (pgn_at (pack_of s) t i).fields → Stands s w (p + 1 + j) (λ c. (read_text s c).next)
  unfolding read_second_text ◌▷◌
  field_id_stands j h =
      let f = field_name_stands j h in
      record { place = f.place; inside = f.inside; clean = back (text_reader s) _ f.clean }

  pub field_id_law : (j : ℕ) → j < length (pgn_at (pack_of s) t i).fields
      → bytes_of s (read_text s (fresh (get_or w (p + 1 + j) 0))).value ≡ (field_at (pgn_at (pack_of s) t i) j).id
  unfolding read_field read_names ◌▷◌ give
  field_id_law j h = ap (λ (f : Field). f.id) (field_law j h)

  pub field_name_law : (j : ℕ) → j < length (pgn_at (pack_of s) t i).fields
      → bytes_of s (read_second_text s (fresh (get_or w (p + 1 + j) 0))).value ≡ (field_at (pgn_at (pack_of s) t i) j).name
  unfolding read_field read_names read_second_text ◌▷◌ give
  field_name_law j h = ap (λ (f : Field). f.name) (field_law j h)

-- ---- a field's field type is there: 6 refuses every other index

module _ (s : List ℕ) where
  field_type_below : (k total : ℕ) (c : Cursor) → (read_field k total s c).next.refused ≡ 0 → (read_field k total s c).value.ft < k
  unfolding read_field ◌▷◌ give
  field_type_below k total c e =
      let n = (read_names s c).next in
      let sc = read_scaling total s (read_code 63 s (read_index k s n).next).next in
      let a : sc.next.refused ≡ 0 = back (authored_reader s) sc.next (back (links_reader s sc.value.bits) (read_authored s sc.next).next e) in
      index_below s n k (back (code_reader s 63) _ (back (scaling_reader s total) _ a))

module _ {s w : List ℕ} {t i p : ℕ} (a : PgnAt s w t i p) where
  pub field_ft_law : (j : ℕ) → j < length (pgn_at (pack_of s) t i).fields → (field_at (pgn_at (pack_of s) t i) j).ft < length (pack_of s).fieldtypes
  field_ft_law j h =
      let k = (type_list s).value in
      let m : j < (pgn_head s t i).value.fields = omega (arith, fields_are s t i a.tree (counted_pgn a)) in
      let st = fields k s (pgn_head s t i).next j in
      let z : (field_next k s st).next.refused ≡ 0 = rw (← fields_turn s (pgn_head s t i).next k j)
      (field_clean s (clean_end s w a.ready) t i (j + 1) a.tree (counted_pgn a) (omega arith)) in
      let b = field_type_below s k st.total st.next (step_clean s k st z) in
      let e : (field_at (pgn_at (pack_of s) t i) j).ft ≡ (read_field k st.total s st.next).value.ft
      = ap (λ (f : Field). f.ft) (field_is s t i j a.tree (counted_pgn a) m) in
      omega (arith, b, e, types_are s)
