-- What a pack says, with no position in it: numbers, texts as their bytes, floats as their 64-bit patterns, and lists of records.
-- The names follow the Rust's `model.rs` and document 01, with hyphens.
use Rattle.std.specs.Prelude.{ℕ, zero, suc, Bool, false, List, [], get_or}
use Rattle.std.specs.Prelude.{Option, None}

abbrev pub Bytes : Type 0
Bytes = List ℕ

-- "Field type: name, flags (1 base, 2 print function, 4 signed), `size`, `resolution` float, `root_name`."
pub record FieldType : Type 0 where
  pub name : Bytes
  pub base : Bool
  pub print_function : Bool
  pub signed : Bool
  pub size : ℕ
  pub resolution : ℕ
  pub root_name : Bytes

-- An entry of a lookup. "Pair and bit: value, name. Triplet: first, second, name. Fieldtype: value, name, fieldtype, optional nested lookup."
-- `value` is a triplet's second. What an entry of its kind does not have is 0, empty or none.
pub record Entry : Type 0 where
  pub first : ℕ
  pub value : ℕ
  pub name : Bytes
  pub fieldtype : Bytes
  pub nested : Option Bytes

-- "Lookup: name, kind (0 pair, 1 triplet, 2 bit, 3 fieldtype), `bits`, list of entries."
pub record Lookup : Type 0 where
  pub name : Bytes
  pub kind : ℕ
  pub bits : ℕ
  pub entries : List Entry

-- "Set: count, start, optional countField, nested mark."
pub record Repeating : Type 0 where
  pub count : ℕ
  pub start : ℕ
  pub count_field : Option ℕ
  pub nested : Bool

-- "reference (kind, name)"
pub record Reference : Type 0 where
  pub kind : ℕ
  pub name : Bytes

-- "Field: id, name, type text, field type index, flags (1 `bits` given, 2 `unit` given, 4 proprietary, 8 allowLookupWidthMismatch,
-- 16 dynamicFieldLength, 32 overhead not 0), `res_bits`, `res_resolution`, `res_offset`; then optional `res_unit`, `resolution`, `offset`,
-- `spn`, `continues`, `match_`, reference (kind, name), `special_values`, `bit_length_field`, trailing-zero target, continuation width."
pub record Field : Type 0 where
  pub id : Bytes
  pub name : Bytes
  pub type : Bytes
  pub ft : ℕ
  pub bits_given : Bool
  pub unit_given : Bool
  pub proprietary : Bool
  pub allow_lookup_width_mismatch : Bool
  pub dynamic_field_length : Bool
  pub overhead : Bool
  pub res_bits : ℕ
  pub res_resolution : ℕ
  pub res_offset : ℕ
  pub res_unit : Option Bytes
  pub resolution : Option ℕ
  pub offset : Option ℕ
  pub spn : Option ℕ
  pub continues : Option Bytes
  pub match : Option Bytes
  pub reference : Option Reference
  pub special_values : Option ℕ
  pub bit_length_field : Option Bytes
  pub trailing_zero : Option Bytes
  pub continuation : Option ℕ

-- "PGN: number, id, type (0 Single, 1 Fast, 2 ISO, 3 Mixed), flags (1 fallback, 2 variable, 4 MissingCompanyFields), length,
-- optional minimum length, two optional sets, list of fields."
pub record Pgn : Type 0 where
  pub pgn : ℕ
  pub id : Bytes
  pub type : ℕ
  pub fallback : Bool
  pub variable : Bool
  pub missing_company_fields : Bool
  pub length : ℕ
  pub min_length : Option ℕ
  -- "two optional sets": the list of places for sets, each given or not. An absent set is no empty set: R44 counts an empty one.
  pub sets : List (Option Repeating)
  pub fields : List Field

-- "Pack: version; list of field types; list of lookups; three lists of PGNs (trees 0 NMEA 2000, 1 J1939, 2 Quick)."
pub record Pack : Type 0 where
  pub fieldtypes : List FieldType
  pub lookups : List Lookup
  pub pgns : List Pgn
  pub pgns_j1939 : List Pgn
  pub pgns_quick : List Pgn

-- the Rust's `pgns_of`, by the tree's number; no other tree has any
abbrev pub pgns_of : Pack → ℕ → List Pgn
pgns_of P zero = P.pgns
pgns_of P (suc zero) = P.pgns_j1939
pgns_of P (suc (suc zero)) = P.pgns_quick
pgns_of P (suc (suc (suc t))) = []

-- What stands at an index beyond a list.
abbrev pub no_field_type : FieldType
no_field_type = record { name = []; base = false; print_function = false; signed = false; size = 0; resolution = 0; root_name = [] }

abbrev pub no_entry : Entry
no_entry = record { first = 0; value = 0; name = []; fieldtype = []; nested = None }

abbrev pub no_lookup : Lookup
no_lookup = record { name = []; kind = 0; bits = 0; entries = [] }

abbrev pub no_field : Field
no_field =
    record {
      id = [];
      name = [];
      type = [];
      ft = 0;
      bits_given = false;
      unit_given = false;
      proprietary = false;
      allow_lookup_width_mismatch = false;
      dynamic_field_length = false;
      overhead = false;
      res_bits = 0;
      res_resolution = 0;
      res_offset = 0;
      res_unit = None;
      resolution = None;
      offset = None;
      spn = None;
      continues = None;
      match = None;
      reference = None;
      special_values = None;
      bit_length_field = None;
      trailing_zero = None;
      continuation = None;
    }

abbrev pub no_pgn : Pgn
no_pgn =
    record {
      pgn = 0;
      id = [];
      type = 0;
      fallback = false;
      variable = false;
      missing_company_fields = false;
      length = 0;
      min_length = None;
      sets = [];
      fields = [];
    }

-- ---- records by their index

abbrev pub lookup_at : List Lookup → ℕ → Lookup
lookup_at ls l = get_or ls l no_lookup

abbrev pub entry_at : List Entry → ℕ → Entry
entry_at es e = get_or es e no_entry

abbrev pub pgn_at : Pack → (tree i : ℕ) → Pgn
pgn_at P t i = get_or (pgns_of P t) i no_pgn

abbrev pub field_at : Pgn → ℕ → Field
field_at p k = get_or p.fields k no_field

-- the set at place k, counted from 0, if it is given
abbrev pub set_place : Pgn → ℕ → Option Repeating
set_place p k = get_or p.sets k None
