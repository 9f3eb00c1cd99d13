-- What the rules read of a pack: the Rust's `model.rs`.
use Rattle.std.specs.Prelude.{ℕ, ◌+◌, Bool, false, ◌||◌, List, [], length, get_or, ◌==◌, if◌then◌else◌}
use Rattle.std.specs.Prelude.{Option, None, Some}
use Rattle.pack.specs.Notation.{◌≐◌}
use Rattle.pack.specs.Value.{Bytes, FieldType, Entry, Lookup, Reference, Field, Pgn, no_field_type, field_at, lookup_at, entry_at}
use Rattle.numerals.specs.Numerals.{parse_u64, parse_hex}
use Rattle.std.specs.Option.{option_or}
use Rattle.rules.specs.Search.{first_below}

abbrev pub is_text : Option Bytes → Bytes → Bool
is_text None t = false
is_text (Some s) t = s ≐ t

-- the Rust's `db.fieldtypes[f.ft]`, and its root's name
abbrev pub fieldtype_of : List FieldType → Field → FieldType
fieldtype_of fts f = get_or fts f.ft no_field_type

abbrev pub root_of : List FieldType → Field → Bytes
root_of fts f = (fieldtype_of fts f).root_name

-- `value_bits`: "its own bits plus any bits a later field continues it with"
abbrev pub continuation_bits : Option ℕ → ℕ
continuation_bits None = 0
continuation_bits (Some bits) = bits

unfoldable pub value_bits : Field → ℕ
value_bits f = f.res_bits + continuation_bits f.continuation

-- `lookup_ref`
abbrev pub lookup_ref : Field → Option Reference
lookup_ref f = f.reference

-- `db.lookups.get(name)`: "Lookups are keyed by their own name."
unfoldable pub find_lookup : List Lookup → Bytes → Option ℕ
find_lookup ls name = first_below (λ l. (lookup_at ls l).name ≐ name) (length ls)

-- the first field with an id: "A target is the first field with that id"
unfoldable pub target : Pgn → Bytes → Option ℕ
target p id = first_below (λ k. (field_at p k).id ≐ id) (length p.fields)

-- A lookup's `pairs` and `fieldtypes`. "The Rust's lists of other kinds are empty"; a bit lookup's entries are pairs.
unfoldable pub pairs : Lookup → List Entry
pairs l = if (l.kind == 0) || (l.kind == 2) then l.entries else []

unfoldable pub fieldtypes : Lookup → List Entry
fieldtypes l = if l.kind == 3 then l.entries else []

-- the value of the first entry with a name
abbrev pub value_at : List Entry → Option ℕ → Option ℕ
value_at es None = None
value_at es (Some e) = Some (entry_at es e).value

unfoldable pub value_named : List Entry → Bytes → Option ℕ
value_named es name = value_at es (first_below (λ e. (entry_at es e).name ≐ name) (length es))

-- "then goes by the reference's kind"
abbrev pub entries_for : Reference → Lookup → List Entry
entries_for r l = if r.kind == 3 then fieldtypes l else pairs l

unfoldable pub resolve_in : List Lookup → Bytes → Reference → Option ℕ → Option ℕ
resolve_in ls m r None = None
resolve_in ls m r (Some l) = value_named (entries_for r (lookup_at ls l)) m

unfoldable pub resolve_name : List Lookup → Bytes → Option Reference → Option ℕ
resolve_name ls m None = None
resolve_name ls m (Some r) = resolve_in ls m r (find_lookup ls r.name)

-- "first parses a u64"; "After the decimal form is tried, a text of 0x or 0X and 1 to 16 hexadecimal digits now resolves to that number; only
-- then are names searched."
unfoldable pub resolve_text : List Lookup → Option Reference → Option Bytes → Option ℕ
resolve_text ls r None = None
resolve_text ls r (Some m) = option_or (parse_u64 m) (option_or (parse_hex m) (resolve_name ls m r))

-- `resolve_match`, with document 02's hexadecimal
unfoldable pub resolve_match : List Lookup → Field → Option ℕ
resolve_match ls f = resolve_text ls (lookup_ref f) f.match
