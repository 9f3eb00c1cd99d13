-- What a method of the reader promises: its answer, and where the reader is then.
use Rattle.std.specs.Prelude.{ℕ, ◌≡◌, Bool, Result, Ok, Err, ◌==◌, if◌then◌else◌}
use Rattle.pack.specs.Items.{Cursor, Item, Form, fresh, finish}
use Rattle.pack.specs.declared.reader.Fault.{Fault}
use Rattle.pack.specs.declared.reader.Fault.TheVariants as fault
use Rattle.pack.specs.declared.reader.InputRefusal.{InputRefusal}
use Rattle.pack.specs.declared.reader.Reader.{Reader}

-- the fault of that number; a refused cursor has 1 to 8
abbrev pub fault_of : ℕ → Fault
fault_of n =
    if n == 1 then fault.CutShort
    else (if n == 2 then fault.Number
    else (if n == 3 then fault.Version
    else (if n == 4 then fault.Code
    else (if n == 5 then fault.NameOrder
    else (if n == 6 then fault.TypeIndex
    else (if n == 7 then fault.Sum
    else fault.BytesLeft))))))

abbrev pub refusal_of : Cursor → InputRefusal
refusal_of c = record { fault = fault_of c.refused; offset = c.at }

-- the item, or the refusal
abbrev pub outcome : {A : Type 0} → Item A → Result A InputRefusal
outcome i = if i.next.refused == 0 then Ok i.value else Err (refusal_of i.next)

-- The reader c has read an item of that form and answered r, and is c' then. After a refusal it is not said where.
pub record Reads {A : Type 0} (c : Reader) (form : Form A) (r : Result A InputRefusal) (c' : Reader) : Type 0 where
  pub bytes : c'.bytes.now ≡ c.bytes.now
  pub answer : r ≡ outcome (form c.bytes.now (fresh c.at))
  pub at : (form c.bytes.now (fresh c.at)).next.refused ≡ 0 → c'.at ≡ (form c.bytes.now (fresh c.at)).next.at

-- of an answer with the next reader: the item alone, and that reader; after a refusal there is none, and it stays
abbrev pub item_of : {A : Type 0} → Result (A × Reader) InputRefusal → Result A InputRefusal
item_of (Ok x) = Ok x.0
item_of (Err e) = Err e

abbrev pub next_of : {A : Type 0} → Reader → Result (A × Reader) InputRefusal → Reader
next_of c (Ok x) = x.1
next_of c (Err e) = c

-- the reader c gives an item of that form with the next reader, or its refusal
abbrev pub Gives : {A : Type 0} (c : Reader) (form : Form A) → Result (A × Reader) InputRefusal → Type 0
Gives c form r = Reads c form (item_of r) (next_of c r)

-- the item that was read at c, where it is good, with the reader behind it; else the fault, at c
abbrev pub refuse_unless : (c : Reader) (value : ℕ) → Bool → Fault → (next : Reader) → Result (ℕ × Reader) InputRefusal
refuse_unless c value good fault next = if good then Ok (value, next) else Err (record { fault = fault; offset = c.at })

-- 8: "bytes after the last tree", at the end of the trees
pub record Ends (c : Reader) (r : Result (Unit {0}) InputRefusal) : Type 0 where
  pub answer : r ≡ (if (finish c.bytes.now (fresh c.at)).refused == 0 then Ok tt else Err (refusal_of (finish c.bytes.now (fresh c.at))))
