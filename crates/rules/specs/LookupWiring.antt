-- R08 and R22, `check_lookup_wiring`: every reference resolves with the right kind and bit width; every lookup is referenced somewhere.
use Rattle.std.specs.Prelude.{is_some}
use Rattle.std.specs.Prelude.{ℕ, ◌^◌, Bool, false, ◌&&◌, ◌||◌, not, List, [], ◌∷◌, ◌++◌, length, get_or, ◌==◌, if◌then◌else◌}
use Rattle.std.specs.Prelude.{Option, None, Some}
use Rattle.pack.specs.Notation.{◌<ᵇ◌, ◌≤ᵇ◌, ◌≐◌, concat_below}
use Rattle.pack.specs.Value.{Bytes, FieldType, Entry, Lookup, Reference, Field, Pgn, Pack, pgns_of, no_field_type, pgn_at, field_at, lookup_at, entry_at}
use Rattle.rules.specs.declared.Finding.{Finding}
use Rattle.rules.specs.Findings.{pgn_error, pgn_warning, lookup_error, lookup_warning, report_if}
use Rattle.rules.specs.Model.{is_text, value_bits, lookup_ref, find_lookup, fieldtypes}
use Rattle.rules.specs.Search.{any_below}

-- A field of this width can't have the value: a bit's position counts from 0, any other value is a number.
unfoldable pub beyond_width : (kind width value : ℕ) → Bool
beyond_width kind width value = if kind == 2 then width ≤ᵇ value else (width <ᵇ 64) && (2 ^ width ≤ᵇ value)

-- The Rust asks it of `named_max`, the largest value, which is out of reach exactly if some value is.
unfoldable pub unreachable : Lookup → (width : ℕ) → Bool
unreachable l width = any_below (λ e. beyond_width l.kind width (entry_at l.entries e).value) (length l.entries)

-- 3 an unreachable value, 4 another width, 5 (a warning) a needless allowLookupWidthMismatch: the first of them that is so
unfoldable pub lookup_width_at : (t i k : ℕ) → Field → (l : ℕ) → Lookup → List Finding
lookup_width_at t i k f l lookup =
    let mismatch = not (value_bits f == lookup.bits) in
    let allowed = f.allow_lookup_width_mismatch in
    if unreachable lookup (value_bits f) && not ((lookup.kind == 2) && allowed) then pgn_error 8 3 t i k l ∷ []
    else (if mismatch && not allowed then pgn_error 8 4 t i k l ∷ []
    else report_if (not mismatch && allowed) (pgn_warning 8 5 t i k l))

-- 1 unknown lookup, 2 a reference of another kind
unfoldable pub lookup_found_at : List Lookup → (t i k : ℕ) → Field → Reference → Option ℕ → List Finding
lookup_found_at ls t i k f r None = pgn_error 8 1 t i k 0 ∷ []
lookup_found_at ls t i k f r (Some l) =
    report_if (not ((lookup_at ls l).kind == r.kind)) (pgn_error 8 2 t i k l) ++ lookup_width_at t i k f l (lookup_at ls l)

unfoldable pub lookup_ref_at : List Lookup → (t i k : ℕ) → Field → Option Reference → List Finding
lookup_ref_at ls t i k f None = []
lookup_ref_at ls t i k f (Some r) = lookup_found_at ls t i k f r (find_lookup ls r.name)

unfoldable pub check_lookup_refs : List Lookup → (t i : ℕ) → Pgn → List Finding
check_lookup_refs ls t i p = concat_below (λ k. lookup_ref_at ls t i k (field_at p k) (lookup_ref (field_at p k))) (length p.fields)

-- `db.fieldtype(name)`
unfoldable pub is_fieldtype : List FieldType → Bytes → Bool
is_fieldtype fts name = any_below (λ j. (get_or fts j no_field_type).name ≐ name) (length fts)

-- 7 unknown nested lookup, of entry e of lookup l
unfoldable pub nested_lookup_at : List Lookup → (l e : ℕ) → Option Bytes → List Finding
nested_lookup_at ls l e None = []
nested_lookup_at ls l e (Some name) = report_if (not (is_some (find_lookup ls name))) (lookup_error 8 7 l e 0)

-- 6 unknown fieldtype, and 7
unfoldable pub fieldtype_entry_at : Pack → (l e : ℕ) → Entry → List Finding
fieldtype_entry_at P l e entry =
    report_if (not (is_fieldtype P.fieldtypes entry.fieldtype)) (lookup_error 8 6 l e 0)
    ++ nested_lookup_at P.lookups l e entry.nested

unfoldable pub check_nested_refs : Pack → (l : ℕ) → Lookup → List Finding
check_nested_refs P l lookup =
    concat_below (λ e. fieldtype_entry_at P l e (entry_at (fieldtypes lookup) e)) (length (fieldtypes lookup))

-- R22. By a field of any tree, whatever the reference's kind, or by an entry of any fieldtype lookup, its own included.
abbrev pub ref_is : Option Reference → Bytes → Bool
ref_is None name = false
ref_is (Some r) name = r.name ≐ name

unfoldable pub referenced_by_pgn : Bytes → Pgn → Bool
referenced_by_pgn name p = any_below (λ k. ref_is (lookup_ref (field_at p k)) name) (length p.fields)

unfoldable pub referenced_by_tree : Pack → Bytes → (t : ℕ) → Bool
referenced_by_tree P name t = any_below (λ i. referenced_by_pgn name (pgn_at P t i)) (length (pgns_of P t))

unfoldable pub referenced_by_lookup : Bytes → Lookup → Bool
referenced_by_lookup name l = any_below (λ e. is_text (entry_at (fieldtypes l) e).nested name) (length (fieldtypes l))

unfoldable pub referenced : Pack → Bytes → Bool
referenced P name =
    any_below (λ t. referenced_by_tree P name t) 3
    || any_below (λ l. referenced_by_lookup name (lookup_at P.lookups l)) (length P.lookups)

-- "here lookup names rise": by index, which is the order of the names
unfoldable pub check_lookup_wiring : Pack → List Finding
check_lookup_wiring P =
    concat_below (λ t. concat_below (λ i. check_lookup_refs P.lookups t i (pgn_at P t i)) (length (pgns_of P t))) 3
    ++ concat_below (λ l. check_nested_refs P l (lookup_at P.lookups l)) (length P.lookups)
    ++ concat_below (λ l. report_if (not (referenced P (lookup_at P.lookups l).name)) (lookup_warning 22 1 l 0 0)) (length P.lookups)
