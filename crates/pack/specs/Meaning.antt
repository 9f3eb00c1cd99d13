-- The pack's value: what the bytes of an accepted pack say.
use Rattle.std.specs.Prelude.{ℕ, List, get_or}
use Rattle.std.specs.Prelude.{Option, None}
use Rattle.std.specs.Option.{option_map}
use Rattle.pack.specs.Notation.{tab}
use Rattle.pack.specs.Value.{Bytes, FieldType, Entry, Lookup, Repeating, Reference, Field, Pgn, Pack}
use Rattle.pack.specs.Items.{bytes_of}
use Rattle.pack.specs.Kinds.{kind_number, message_type_number}
use Rattle.pack.specs.Records.{read_type, read_entry, read_lookup, read_pgn, read_field}
use Rattle.pack.specs.Format.{entries, fields, type_list, lookup_list, tree_list, type_start, lookup_start, pgn_start, offsets}
use Rattle.pack.specs.Load.{Verdict, refused, accepted, verdict}
use Rattle.pack.specs.declared.text.Text.{Text}
use Rattle.pack.specs.declared.protocol.FieldOrder.{FieldOrder}
use Rattle.pack.specs.declared.load.Refusal.{Refusal}
use Rattle.pack.specs.declared.field_type.FieldTypeView.{FieldTypeView}
use Rattle.pack.specs.declared.entry.EntryView.{EntryView}
use Rattle.pack.specs.declared.lookup.LookupView.{LookupView}
use Rattle.pack.specs.declared.pgn.RepeatingView.{RepeatingView}
use Rattle.pack.specs.declared.pgn.PgnView.{PgnView}
use Rattle.pack.specs.declared.field.ReferenceView.{ReferenceView}
use Rattle.pack.specs.declared.field.FieldView.{FieldView}

-- ---- what a view means

abbrev pub optional_bytes : List ℕ → Option Text → Option Bytes
optional_bytes s o = option_map (bytes_of s) o

abbrev pub type_meaning : List ℕ → FieldTypeView → FieldType
type_meaning s v =
    record {
      name = bytes_of s v.name;
      base = v.base;
      print_function = v.print;
      signed = v.signed;
      size = v.size;
      resolution = v.resolution;
      root_name = bytes_of s v.root;
    }

abbrev pub entry_meaning : List ℕ → EntryView → Entry
entry_meaning s v =
    record {
      first = v.first;
      value = v.value;
      name = bytes_of s v.name;
      fieldtype = bytes_of s v.fieldtype;
      nested = optional_bytes s v.nested;
    }

-- a lookup's view has only the number of its entries
abbrev pub lookup_meaning : List ℕ → LookupView → List Entry → Lookup
lookup_meaning s v es = record { name = bytes_of s v.name; kind = kind_number v.kind; bits = v.bits; entries = es }

abbrev pub opt_order : Option FieldOrder → Option ℕ
opt_order o = option_map (λ v. v.0) o

abbrev pub repeating_meaning : RepeatingView → Repeating
repeating_meaning v = record { count = v.count; start = v.start.0; count_field = opt_order v.counter; nested = v.nested }

abbrev pub optional_repeating : Option RepeatingView → Option Repeating
optional_repeating o = option_map repeating_meaning o

abbrev pub reference_meaning : List ℕ → ReferenceView → Reference
reference_meaning s v = record { kind = kind_number v.kind; name = bytes_of s v.name }

abbrev pub optional_reference : List ℕ → Option ReferenceView → Option Reference
optional_reference s o = option_map (reference_meaning s) o

abbrev pub field_meaning : List ℕ → FieldView → Field
field_meaning s v =
    record {
      id = bytes_of s v.names.id;
      name = bytes_of s v.names.name;
      type = bytes_of s v.names.kind;
      ft = v.ft;
      bits_given = v.flags.bits;
      unit_given = v.flags.unit;
      proprietary = v.flags.proprietary;
      allow_lookup_width_mismatch = v.flags.mismatch;
      dynamic_field_length = v.flags.dynamic;
      overhead = v.flags.overhead;
      res_bits = v.scaling.bits;
      res_resolution = v.scaling.resolution;
      res_offset = v.scaling.offset;
      res_unit = optional_bytes s v.scaling.unit;
      resolution = v.authored.resolution;
      offset = v.authored.offset;
      spn = v.authored.spn;
      continues = optional_bytes s v.authored.continues;
      match = optional_bytes s v.authored.matched;
      reference = optional_reference s v.links.reference;
      special_values = v.links.special;
      bit_length_field = optional_bytes s v.links.length;
      trailing_zero = optional_bytes s v.links.trailing;
      continuation = v.links.continuation;
    }

-- a PGN's view has only the number of its fields
abbrev pub pgn_meaning : List ℕ → PgnView → List Field → Pgn
pgn_meaning s v fs =
    record {
      pgn = v.pgn;
      id = bytes_of s v.id;
      type = message_type_number v.kind;
      fallback = v.flags.fallback;
      variable = v.flags.variable;
      missing_company_fields = v.flags.incomplete;
      length = v.length;
      min_length = v.minimum;
      sets = tab (λ k. optional_repeating (get_or v.sets k None)) v.places;
      fields = fs;
    }

-- ---- the records of the pack s

unfoldable pub type_of_pack : List ℕ → ℕ → FieldType
type_of_pack s i = type_meaning s (read_type s (type_start s i)).value

unfoldable pub lookup_of_pack : List ℕ → ℕ → Lookup
lookup_of_pack s i =
    let a = lookup_start s i in
    let l = read_lookup a.before s a.next in
    let k = l.value.kind in
    lookup_meaning s l.value (tab (λ j. entry_meaning s (read_entry k s (entries k s l.next j)).value) l.value.entries)

unfoldable pub pgn_of_pack : List ℕ → ℕ → ℕ → Pgn
pgn_of_pack s t i =
    let p = read_pgn s (pgn_start s t i) in
    let k = (type_list s).value in
    pgn_meaning s p.value
    (tab (λ j. let a = fields k s p.next j in field_meaning s (read_field k a.total s a.next).value) p.value.fields)

unfoldable pub tree_of_pack : List ℕ → ℕ → List Pgn
tree_of_pack s t = tab (pgn_of_pack s t) (tree_list s t).value

unfoldable pub pack_of : List ℕ → Pack
pack_of s =
    record {
      fieldtypes = tab (type_of_pack s) (type_list s).value;
      lookups = tab (lookup_of_pack s) (lookup_list s).value;
      pgns = tree_of_pack s 0;
      pgns_j1939 = tree_of_pack s 1;
      pgns_quick = tree_of_pack s 2;
    }

-- ---- from bytes to the refusal, or to the value and the record offsets

pub data Reading : Type 0 where
  refused_by : Refusal → Reading
  holds : Pack → List ℕ → Reading

abbrev pub reading_of : Verdict → Pack → List ℕ → Reading
reading_of (refused r) P os = refused_by r
reading_of accepted P os = holds P os

unfoldable pub read : List ℕ → Reading
read s = reading_of (verdict s) (pack_of s) (offsets s)
