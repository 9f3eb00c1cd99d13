-- What a method of the cursor takes over from the reader.
use Rattle.std.specs.Prelude.{ℕ, ◌≡◌, ◌<◌, ◌==◌, List, Result, Ok, Err, length, true, if◌then◌else◌}
use Rattle.pack.specs.Items.{Cursor, Item, fresh, refuse}
use Rattle.pack.specs.Load.{fault_number}
use Rattle.pack.specs.declared.reader.InputRefusal.{InputRefusal}
use Rattle.pack.specs.declared.reader.Reader.{Reader}

-- the reader that stands at a cursor which is not refused and not behind the bytes; else the cursor behind any item
abbrev pub StandsAt : Cursor → List ℕ → Result Reader Cursor → Type 0
StandsAt c s (Ok r) = (r.bytes.now ≡ s) × (fresh r.at ≡ c)
StandsAt c s (Err next) = (next ≡ (if c.refused == 0 then refuse c 1 else c)) × ((c.refused == 0) ≡ true → length s < c.at)

-- what the reader answered as an item, which is empty where it was refused
abbrev pub item_read : {A : Type 0} → Result (A × Reader) InputRefusal → A → Item A
item_read (Ok x) empty = record { value = x.0; next = fresh x.1.at }
item_read (Err e) empty = record { value = empty; next = record { at = e.offset; refused = fault_number e.fault } }
