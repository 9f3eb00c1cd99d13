-- The texts that the rules compare with, as their bytes.
use Prim.Native.Char.{code}
use Prim.Native.String.{String, [] as end, ◌∷◌ as ◌then◌}
use Rattle.std.specs.Prelude.{[], ◌∷◌}
use Rattle.pack.specs.Value.{Bytes}

-- a text of ASCII
abbrev pub bytes : String → Bytes
bytes end = []
bytes (c then s) = code c ∷ bytes s

-- names of root field types
abbrev pub NUMBER : Bytes
NUMBER = bytes "NUMBER"

abbrev pub LOOKUP : Bytes
LOOKUP = bytes "LOOKUP"

abbrev pub RESERVED : Bytes
RESERVED = bytes "RESERVED"

abbrev pub DYNAMIC_FIELD_LENGTH : Bytes
DYNAMIC_FIELD_LENGTH = bytes "DYNAMIC_FIELD_LENGTH"

abbrev pub DYNAMIC_FIELD_KEY : Bytes
DYNAMIC_FIELD_KEY = bytes "DYNAMIC_FIELD_KEY"

abbrev pub DYNAMIC_FIELD_VALUE : Bytes
DYNAMIC_FIELD_VALUE = bytes "DYNAMIC_FIELD_VALUE"

-- type texts of fields
abbrev pub BINARY : Bytes
BINARY = bytes "BINARY"

abbrev pub DECIMAL : Bytes
DECIMAL = bytes "DECIMAL"

-- names of lookups
abbrev pub MANUFACTURER_CODE : Bytes
MANUFACTURER_CODE = bytes "MANUFACTURER_CODE"

abbrev pub INDUSTRY_CODE : Bytes
INDUSTRY_CODE = bytes "INDUSTRY_CODE"

-- derive.rs
abbrev pub SPN_LOOKUP : Bytes
SPN_LOOKUP = bytes "J1939_SPN"
