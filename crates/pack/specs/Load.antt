-- What `load` answers, and what it leaves in the work buffer.
use Rattle.std.specs.Prelude.{ℕ, ◌≡◌, List, [], ◌∷◌, ◌++◌, length, drop, Result, Ok, Err, ◌==◌, if◌then◌else◌}
use Rattle.pack.specs.Notation.{◌<ᵇ◌, ◌≤ᵇ◌}
use Rattle.pack.specs.Format.{type_list, lookup_list, tree_list, type_part, before, offsets, pack_end}
use Rattle.pack.specs.declared.load.Section.{Section}
use Rattle.pack.specs.declared.load.Index.{Index}
use Rattle.pack.specs.declared.load.Refusal.{Refusal}
use Rattle.pack.specs.declared.load.Refusal.TheVariants.{Input, TooLong, Work, Findings, Absent, Place, Visits}
use Rattle.pack.specs.Reads.{refusal_of}
use Rattle.pack.specs.declared.reader.Fault.{Fault}
use Rattle.pack.specs.declared.reader.Fault.TheVariants as fault

abbrev pub fault_number : Fault → ℕ
fault_number fault.CutShort = 1
fault_number fault.Number = 2
fault_number fault.Version = 3
fault_number fault.Code = 4
fault_number fault.NameOrder = 5
fault_number fault.TypeIndex = 6
fault_number fault.Sum = 7
fault_number fault.BytesLeft = 8

-- "A refusal gives its number and a detail."
abbrev pub refusal_number : Refusal → ℕ
refusal_number (Input i) = fault_number i.fault
refusal_number TooLong = 9
refusal_number (Work n) = 21
refusal_number (Findings n) = 22
refusal_number Absent = 23
refusal_number (Place n) = 24
refusal_number (Visits n) = 25

-- "For 1 to 8 the detail is the byte offset at which the offending item (a number, text, 8-byte float) begins; for 9 it is 0."
-- "The detail is the length needed; 0 for 23 .."
abbrev pub refusal_detail : Refusal → ℕ
refusal_detail (Input i) = i.offset
refusal_detail TooLong = 0
refusal_detail (Work n) = n
refusal_detail (Findings n) = n
refusal_detail Absent = 0
refusal_detail (Place n) = n
refusal_detail (Visits n) = n

-- ---- answers in 01's numbers

-- "If an answer is an enum, a definition sets out this paper's number and values for each of the enum's cases."
-- A refusal's number with its detail; or 0 with the values that the call gives.
pub record Answer : Type 0 where
  pub number : ℕ
  pub values : List ℕ

abbrev pub refuses : (number detail : ℕ) → Answer
refuses number detail = record { number = number; values = detail ∷ [] }

abbrev pub gives : List ℕ → Answer
gives values = record { number = 0; values = values }

-- "Input refusals come before these": the rest of a call, where its load is not refused
abbrev pub after : Answer → Answer → Answer
after load rest = if load.number == 0 then rest else load

abbrev pub refusal_answer : Refusal → Answer
refusal_answer r = refuses (refusal_number r) (refusal_detail r)

-- an answer by its refusal, or by the values of what is answered
abbrev pub in_numbers : {T : Type 0} → (T → List ℕ) → Result T Refusal → Answer
in_numbers values (Err r) = refusal_answer r
in_numbers values (Ok x) = gives (values x)

-- the count of a list of records, and the work position at which it begins
abbrev pub section_values : Section → List ℕ
section_values s = s.count ∷ s.place ∷ []

-- the number of records; then field types, lookups and trees 0 to 2
abbrev pub index_values : Index → List ℕ
index_values i =
    i.records
    ∷ section_values i.types
    ++ section_values i.lookups
    ++ section_values i.nmea2000
    ++ section_values i.j1939
    ++ section_values i.quick

abbrev pub load_answer : Result Index Refusal → Answer
load_answer = in_numbers index_values

-- ---- load

-- 9: "pack longer than 1,048,576 bytes"
abbrev pub most_bytes : ℕ
most_bytes = 1048576

-- "9 is tested first. Then the first offending item decides"
pub data Verdict : Type 0 where
  refused : Refusal → Verdict
  accepted : Verdict

unfoldable pub verdict : List ℕ → Verdict
verdict s =
    if most_bytes <ᵇ length s
    then refused TooLong
    else (if (pack_end s).refused == 0
    then accepted
    else refused (Input (refusal_of (pack_end s))))

-- the counts, and the work positions at which field types, lookups and the three trees begin
unfoldable pub load_index : List ℕ → Index
load_index s =
    record {
      types = record { count = (type_list s).value; place = 0 };
      lookups = record { count = (lookup_list s).value; place = length (type_part s) };
      nmea2000 = record { count = (tree_list s 0).value; place = length (before s 0) };
      j1939 = record { count = (tree_list s 1).value; place = length (before s 1) };
      quick = record { count = (tree_list s 2).value; place = length (before s 2) };
      records = length (offsets s);
    }

abbrev pub answer : Verdict → Index → ℕ → Result Index Refusal
answer (refused r) i m = Err r
answer accepted i m = if i.records ≤ᵇ m then Ok i else Err (Work i.records)

-- `load` of the pack s with a work buffer of m numbers. 21: "work buffer shorter than the records"
unfoldable pub loaded : List ℕ → ℕ → Result Index Refusal
loaded s m = answer (verdict s) (load_index s) m

-- The same in 01's numbers: "9 is tested first. Then the first offending item decides"; "Input refusals come before these; then 21"
unfoldable pub load_tells : List ℕ → (m : ℕ) → Answer
load_tells s m =
    if most_bytes <ᵇ length s
    then refuses 9 0
    else (if (pack_end s).refused == 0
    then (if length (offsets s) ≤ᵇ m then gives (index_values (load_index s)) else refuses 21 (length (offsets s)))
    else refuses (pack_end s).refused (pack_end s).at)

-- w with its first numbers replaced
abbrev pub over : List ℕ → List ℕ → List ℕ
over front w = front ++ drop (length front) w

-- "Success writes only the entries it reports."; after a refusal the buffer is what it was
abbrev pub buffer_left : {T : Type 0} → Result T Refusal → (front w : List ℕ) → List ℕ
buffer_left (Err r) front w = w
buffer_left (Ok x) front w = over front w

-- "After 1 to 9 and 21 no buffer has changed. Otherwise the work buffer holds the offset of each record .., its rest unchanged."
unfoldable pub work_after : List ℕ → List ℕ → List ℕ
work_after s w = buffer_left (loaded s (length w)) (offsets s) w

-- "Input refusals come before these": what a call answers that goes on where its load is not refused
abbrev pub after_load : {T : Type 0} → Result Index Refusal → Result T Refusal → Result T Refusal
after_load (Err r) rest = Err r
after_load (Ok i) rest = rest

-- What `load` promises: its answer r, also in 01's numbers, and the work buffer, w before and w' after.
pub record Loads (s w w' : List ℕ) (r : Result Index Refusal) : Type 0 where
  pub answer : r ≡ loaded s (length w)
  pub told : load_answer r ≡ load_tells s (length w)
  pub work : w' ≡ work_after s w
