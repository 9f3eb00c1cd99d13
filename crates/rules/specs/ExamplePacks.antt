-- What the examples' packs are made of.
use Rattle.std.specs.Prelude.{ℕ, true, false, List, [], ◌∷◌}
use Rattle.std.specs.Prelude.{Option, None}
use Rattle.pack.specs.Value.{Bytes, FieldType, Lookup, Repeating, Reference, Field, Pgn, Pack}
use Rattle.rules.specs.Texts.{NUMBER}

-- "one root field type NUMBER with a print function"
abbrev pub number_type : FieldType
number_type = record { name = NUMBER; base = false; print_function = true; signed = false; size = 0; resolution = 0; root_name = NUMBER }

abbrev pub a_field :
    (id name type : Bytes) (bits resolution offset : ℕ) (unit : Option Bytes) (spn : Option ℕ) (match : Option Bytes) (reference : Option Reference)
    (special : Option ℕ) (trailing : Option Bytes)
    → Field
a_field id name type bits resolution offset unit spn match reference special trailing =
    record {
      id = id;
      name = name;
      type = type;
      ft = 0;
      bits_given = false;
      unit_given = false;
      proprietary = false;
      allow_lookup_width_mismatch = false;
      dynamic_field_length = false;
      overhead = false;
      res_bits = bits;
      res_resolution = resolution;
      res_offset = offset;
      res_unit = unit;
      resolution = None;
      offset = None;
      spn = spn;
      continues = None;
      match = match;
      reference = reference;
      special_values = special;
      bit_length_field = None;
      trailing_zero = trailing;
      continuation = None;
    }

abbrev pub with_sets : (number : ℕ) (id : Bytes) → List (Option Repeating) → List Field → Pgn
with_sets number id sets fields =
    record {
      pgn = number;
      id = id;
      type = 0;
      fallback = false;
      variable = false;
      missing_company_fields = false;
      length = 8;
      min_length = None;
      sets = sets;
      fields = fields;
    }

abbrev pub a_pgn : (number : ℕ) (id : Bytes) → Option Repeating → List Field → Pgn
a_pgn number id set fields = with_sets number id (set ∷ None ∷ []) fields

abbrev pub in_nmea2000 : List Lookup → List Pgn → Pack
in_nmea2000 lookups pgns = record { fieldtypes = number_type ∷ []; lookups = lookups; pgns = pgns; pgns_j1939 = []; pgns_quick = [] }

abbrev pub in_j1939 : List Pgn → Pack
in_j1939 pgns = record { fieldtypes = number_type ∷ []; lookups = []; pgns = []; pgns_j1939 = pgns; pgns_quick = [] }

-- a NaN, and the other zero
abbrev pub NAN : ℕ
NAN = 0x7ff8_0000_0000_0000

abbrev pub MINUS_ZERO : ℕ
MINUS_ZERO = 0x8000_0000_0000_0000
