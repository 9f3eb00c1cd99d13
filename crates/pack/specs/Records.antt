-- The five kinds of record, item by item in document 01's order, as views: numbers, float patterns, and texts as parts of the pack.
use Rattle.std.specs.Prelude.{ℕ, ◌/◌, ◌%◌, [], ◌∷◌, ◌==◌}
use Rattle.std.specs.Prelude.{Option, None}
use Rattle.std.specs.Option.{option_map}
use Rattle.pack.specs.Items.{Form, give, ◌▷◌, optional, largest64, read_wide, read_number, read_code, read_index, read_sum, read_bytes, read_mark}
use Rattle.pack.specs.Items.{read_text, read_name, read_float}
use Rattle.pack.specs.Kinds.{kind_of, message_type_of}
use Rattle.pack.specs.declared.kinds.LookupKind.{LookupKind}
use Rattle.pack.specs.declared.kinds.LookupKind.TheVariants.{Pair, Triplet, Bit, Fieldtype}
use Rattle.pack.specs.declared.text.Text.{Text}
use Rattle.pack.specs.declared.protocol.FieldOrder.{FieldOrder}
use Rattle.pack.specs.declared.field_type.FieldTypeView.{FieldTypeView}
use Rattle.pack.specs.declared.entry.EntryView.{EntryView}
use Rattle.pack.specs.declared.entry.KindPart.{KindPart}
use Rattle.pack.specs.declared.lookup.LookupView.{LookupView}
use Rattle.pack.specs.declared.pgn.RepeatingView.{RepeatingView}
use Rattle.pack.specs.declared.pgn.PgnFlags.{PgnFlags}
use Rattle.pack.specs.declared.pgn.PgnView.{PgnView}
use Rattle.pack.specs.declared.field.NamesView.{NamesView}
use Rattle.pack.specs.declared.field.FieldFlags.{FieldFlags}
use Rattle.pack.specs.declared.field.ScalingView.{ScalingView}
use Rattle.pack.specs.declared.field.AuthoredView.{AuthoredView}
use Rattle.pack.specs.declared.field.ReferenceView.{ReferenceView}
use Rattle.pack.specs.declared.field.LinksView.{LinksView}
use Rattle.pack.specs.declared.field.FieldView.{FieldView}

-- "Field type: name, flags (1 base, 2 print function, 4 signed), `size`, `resolution` float, `root_name`."
unfoldable pub read_type : Form FieldTypeView
read_type =
    read_text ▷ λ name.
    read_code 7 ▷ λ flags.
    read_number ▷ λ size.
    read_float ▷ λ resolution.
    read_text ▷ λ root.
    give (record {
      name = name;
      base = flags % 2 == 1;
      print = flags / 2 % 2 == 1;
      signed = flags / 4 % 2 == 1;
      size = size;
      resolution = resolution;
      root = root;
    })

-- "Triplet: first, second, name": what stands before an entry's value
unfoldable pub read_first : LookupKind → Form ℕ
read_first Triplet = read_wide largest64
read_first Pair = give 0
read_first Bit = give 0
read_first Fieldtype = give 0

-- of an entry of another kind
abbrev pub no_kind_part : KindPart
no_kind_part = record { fieldtype = record { start = 0; len = 0 }; nested = None }

-- "Fieldtype: value, name, fieldtype, optional nested lookup": what stands behind an entry's name
unfoldable pub read_kind_part : LookupKind → Form KindPart
read_kind_part Fieldtype =
    read_text ▷ λ fieldtype. optional read_text ▷ λ nested. give (record { fieldtype = fieldtype; nested = nested })
read_kind_part Pair = give no_kind_part
read_kind_part Triplet = give no_kind_part
read_kind_part Bit = give no_kind_part

-- an entry of a lookup of that kind. "Pair and bit: value, name."
unfoldable pub read_entry : LookupKind → Form EntryView
read_entry kind =
    read_first kind ▷ λ first.
    read_wide largest64 ▷ λ value.
    read_text ▷ λ name.
    read_kind_part kind ▷ λ rest.
    give (record { first = first; value = value; name = name; fieldtype = rest.fieldtype; nested = rest.nested })

-- "Lookup: name, kind (0 pair, 1 triplet, 2 bit, 3 fieldtype), `bits`, list of entries": up to the count of the entries
unfoldable pub read_lookup : Option Text → Form LookupView
read_lookup before =
    read_name before ▷ λ name.
    read_code 3 ▷ λ kind.
    read_number ▷ λ bits.
    read_number ▷ λ entries.
    give (record { name = name; kind = kind_of kind; bits = bits; entries = entries })

abbrev pub order_of : Option ℕ → Option FieldOrder
order_of n = option_map (λ n. record { 0 = n }) n

-- "Set: count, start, optional countField, nested mark." "Sums under 7: a set's start + count"
unfoldable pub read_repeating : Form RepeatingView
read_repeating =
    read_number ▷ λ count.
    read_sum count ▷ λ start.
    optional read_number ▷ λ counter.
    read_mark ▷ λ nested.
    give (record { count = count; start = record { 0 = start }; counter = order_of counter; nested = nested })

abbrev pub pgn_flags_of : ℕ → PgnFlags
pgn_flags_of n = record { fallback = n % 2 == 1; variable = n / 2 % 2 == 1; incomplete = n / 4 % 2 == 1 }

-- "PGN: number, id, type (0 Single, 1 Fast, 2 ISO, 3 Mixed), flags (1 fallback, 2 variable, 4 MissingCompanyFields), length,
-- optional minimum length, two optional sets, list of fields": up to the count of the fields
unfoldable pub read_pgn : Form PgnView
read_pgn =
    read_number ▷ λ pgn.
    read_text ▷ λ id.
    read_code 3 ▷ λ kind.
    read_code 7 ▷ λ flags.
    read_number ▷ λ length.
    optional read_bytes ▷ λ minimum.
    optional read_repeating ▷ λ first.
    optional read_repeating ▷ λ second.
    read_number ▷ λ fields.
    give (record {
      pgn = pgn;
      id = id;
      kind = message_type_of kind;
      flags = pgn_flags_of flags;
      length = length;
      minimum = minimum;
      sets = first ∷ second ∷ None ∷ None ∷ [];
      places = 2;
      fields = fields;
    })

-- "Field: id, name, type text, .."
unfoldable pub read_names : Form NamesView
read_names = read_text ▷ λ id. read_text ▷ λ name. read_text ▷ λ kind. give (record { id = id; name = name; kind = kind })

-- the second text of what begins with two, as a field does
unfoldable pub read_second_text : Form Text
read_second_text = read_text ▷ λ first. read_text

-- ".. flags (1 `bits` given, 2 `unit` given, 4 proprietary, 8 allowLookupWidthMismatch, 16 dynamicFieldLength, 32 overhead not 0), .."
abbrev pub field_flags_of : ℕ → FieldFlags
field_flags_of n =
    record {
      bits = n % 2 == 1;
      unit = n / 2 % 2 == 1;
      proprietary = n / 4 % 2 == 1;
      mismatch = n / 8 % 2 == 1;
      dynamic = n / 16 % 2 == 1;
      overhead = n / 32 % 2 == 1;
    }

-- ".. `res_bits`, `res_resolution`, `res_offset`; then optional `res_unit`, ..", with `total` bits in the PGN's fields before it
unfoldable pub read_scaling : ℕ → Form ScalingView
read_scaling total =
    read_sum total ▷ λ bits.
    read_float ▷ λ resolution.
    read_float ▷ λ offset.
    optional read_text ▷ λ unit.
    give (record { bits = bits; resolution = resolution; offset = offset; unit = unit })

-- ".. `resolution`, `offset`, `spn`, `continues`, `match_`, .."
unfoldable pub read_authored : Form AuthoredView
read_authored =
    optional read_float ▷ λ resolution.
    optional read_float ▷ λ offset.
    optional read_number ▷ λ spn.
    optional read_text ▷ λ continues.
    optional read_text ▷ λ matched.
    give (record { resolution = resolution; offset = offset; spn = spn; continues = continues; matched = matched })

-- ".. reference (kind, name), .."
unfoldable pub read_reference : Form ReferenceView
read_reference = read_code 3 ▷ λ kind. read_text ▷ λ name. give (record { kind = kind_of kind; name = name })

-- ".. `special_values`, `bit_length_field`, trailing-zero target, continuation width", of a field of `bits` bits
unfoldable pub read_links : ℕ → Form LinksView
read_links bits =
    optional read_reference ▷ λ reference.
    optional read_number ▷ λ special.
    optional read_text ▷ λ length.
    optional read_text ▷ λ trailing.
    optional (read_sum bits) ▷ λ continuation.
    give (record { reference = reference; special = special; length = length; trailing = trailing; continuation = continuation })

-- a field, in a pack of `types` field types and a PGN whose fields before it have `total` bits
unfoldable pub read_field : ℕ → ℕ → Form FieldView
read_field types total =
    read_names ▷ λ names.
    read_index types ▷ λ ft.
    read_code 63 ▷ λ flags.
    read_scaling total ▷ λ scaling.
    read_authored ▷ λ authored.
    read_links scaling.bits ▷ λ links.
    give (record {
      names = names;
      ft = ft;
      flags = field_flags_of flags;
      scaling = scaling;
      authored = authored;
      links = links;
    })
