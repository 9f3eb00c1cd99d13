-- The kinds that 01 gives by a number, by number and by name.
use Rattle.std.specs.Prelude.{ℕ, ◌==◌, if◌then◌else◌}
use Rattle.pack.specs.declared.kinds.LookupKind.{LookupKind}
use Rattle.pack.specs.declared.kinds.LookupKind.TheVariants.{Pair, Triplet, Bit, Fieldtype}
use Rattle.pack.specs.declared.kinds.MessageType.{MessageType}
use Rattle.pack.specs.declared.kinds.MessageType.TheVariants.{Single, Fast, Iso, Mixed}

-- "kind (0 pair, 1 triplet, 2 bit, 3 fieldtype)"
abbrev pub kind_number : LookupKind → ℕ
kind_number Pair = 0
kind_number Triplet = 1
kind_number Bit = 2
kind_number Fieldtype = 3

abbrev pub kind_of : ℕ → LookupKind
kind_of n = if n == 0 then Pair else (if n == 1 then Triplet else (if n == 2 then Bit else Fieldtype))

-- The kind as whose an entry is read, by any number: triplets and fieldtype entries have items of their own; "Pair and bit: value, name.", and so
-- every number that no kind has.
abbrev pub entries_of : ℕ → LookupKind
entries_of n = if n == 1 then Triplet else (if n == 3 then Fieldtype else Pair)

-- "type (0 Single, 1 Fast, 2 ISO, 3 Mixed)"
abbrev pub message_type_number : MessageType → ℕ
message_type_number Single = 0
message_type_number Fast = 1
message_type_number Iso = 2
message_type_number Mixed = 3

abbrev pub message_type_of : ℕ → MessageType
message_type_of n = if n == 0 then Single else (if n == 1 then Fast else (if n == 2 then Iso else Mixed))
