-- The words for what a pack holds, as the bytes that are written.
use Rattle.std.specs.Borrow.{Bor}
use Rattle.std.specs.Prelude.{ℕ, Bool, List, [], ◌++◌, ◌==◌, if◌then◌else◌, codes, decimal, flat_map}
use Rattle.listing.specs.declared.words.Counted.{Counted}
use Rattle.listing.specs.declared.words.Refused.{Refused}
use Rattle.pack.specs.Load.{refusal_number, refusal_detail}
use Rattle.pack.specs.declared.kinds.LookupKind.{LookupKind}
use Rattle.pack.specs.declared.kinds.LookupKind.TheVariants.{Pair, Triplet, Bit, Fieldtype}
use Rattle.pack.specs.declared.protocol.Protocol.{Protocol}
use Rattle.pack.specs.declared.protocol.Protocol.TheVariants.{Nmea2000, J1939, Quick}

abbrev pub protocol_name : Protocol → List ℕ
protocol_name Nmea2000 = codes "NMEA 2000"
protocol_name J1939 = codes "J1939"
protocol_name Quick = codes "Quick"

abbrev pub kind_name : LookupKind → List ℕ
kind_name Pair = codes "pair"
kind_name Triplet = codes "triplet"
kind_name Bit = codes "bit"
kind_name Fieldtype = codes "fieldtype"

-- how many, and the word for one or for any other number of them
abbrev pub counted : Counted → List ℕ
counted c = decimal c.count ++ (codes " " ++ (if c.count == 1 then c.one.now else c.many.now))

abbrev pub refused : Refused → List ℕ
refused r = codes "refused " ++ (decimal (refusal_number r.0) ++ (codes " " ++ decimal (refusal_detail r.0)))

-- a flag's words behind a comma, if it is set
abbrev pub flag_words : Bool × Bor (List ℕ) → List ℕ
flag_words flag = if flag.0 then codes ", " ++ flag.1.now else []

abbrev pub set_flags : List (Bool × Bor (List ℕ)) → List ℕ
set_flags = flat_map flag_words
