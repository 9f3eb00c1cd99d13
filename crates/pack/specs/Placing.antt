use Rattle.std.specs.Prelude.{Ok, Err}
-- What the steps of `load` promise each other: how far they read, and the offsets that they stored on the way.
use Rattle.std.specs.Prelude.{ℕ, ◌+◌, ◌%◌, ◌≡◌, min, List, [], ◌∷◌, length, set}
use Rattle.std.specs.Prelude.{Option, Result}
use Rattle.std.proofs.lemmas.List.Edits.{sets}
use Rattle.pack.specs.Items.{Cursor, Form, fresh, read_number}
use Rattle.pack.specs.Records.{read_lookup}
use Rattle.pack.specs.Notation.{concat_below}
use Rattle.pack.specs.Format.{iter, lookup_next, lookup_records, pgns, pgn_offsets, pack_end, offsets}
use Rattle.pack.specs.Load.{load_index}
use Rattle.pack.specs.Reads.{outcome, Reads, item_of, next_of}
use Rattle.pack.specs.declared.text.Text.{Text}
use Rattle.pack.specs.declared.load.Section.{Section}
use Rattle.pack.specs.declared.load.Index.{Index}
use Rattle.pack.specs.declared.load.Offsets.{Offsets}
use Rattle.pack.specs.declared.reader.InputRefusal.{InputRefusal}
use Rattle.pack.specs.declared.reader.Reader.{Reader}

-- the numbers xs stored from p on, as far as the buffer has room
pub record Stored (w : List ℕ) (p : ℕ) (xs w' : List ℕ) (p' : ℕ) : Type 0 where
  pub count : p' ≡ p + length xs
  pub work : w' ≡ sets w p xs

-- ---- offsets put into the work buffer one after the other, where it has room

-- the buffer, and how many offsets there are
pub record Placed : Type 0 where
  pub work : List ℕ
  pub count : ℕ

abbrev pub none_in : List ℕ → Placed
none_in w = record { work = w; count = 0 }

abbrev pub placed_in : Offsets → Placed
placed_in o = record { work = o.work.now; count = o.count }

-- An offset is stored in 32 bits, and the count stops at the largest number of 64. A pack that `load` reads has fewer bytes (Bounds).
unfoldable pub put_one : Placed → ℕ → Placed
put_one o at = record { work = set o.work o.count (at % 4294967296); count = min (o.count + 1) 18446744073709551615 }

abbrev pub put_all : Placed → List ℕ → Placed
put_all o [] = o
put_all o (x ∷ xs) = put_all (put_one o x) xs

-- the offsets xs are put behind those before, into the same buffer
pub record Put (o : Offsets) (xs : List ℕ) (o' : Offsets) : Type 0 where
  pub placed : placed_in o' ≡ put_all (placed_in o) xs
  pub same : o'.work.ghost_name ≡ o.work.ghost_name

-- ---- records read and their offsets put

-- After a refusal nothing is said of the buffer.
pub record Placing {A : Type 0} (form : Form A) (xs : List ℕ → Cursor → List ℕ) (r : Reader) (o : Offsets) (q : Result A InputRefusal) (r' : Reader)
    (o' : Offsets) : Type 0 where
  pub reads : Reads r form q r'
  pub put : (form r.bytes.now (fresh r.at)).next.refused ≡ 0 → Put o (xs r.bytes.now (fresh r.at)) o'

-- of an answer that is the next reader alone
abbrev pub past : Result Reader InputRefusal → Result (Unit {0} × Reader) InputRefusal
past (Ok c) = Ok (tt, c)
past (Err e) = Err e

-- records up to the cursor `end`
abbrev pub PlacesRecords : (end : List ℕ → Cursor → Cursor) (xs : List ℕ → Cursor → List ℕ) (r : Reader) (o : Offsets) → Result Reader InputRefusal → Offsets
    → Type 0
PlacesRecords end xs r o q o' = Placing (λ s c. record { value = tt; next = end s c }) xs r o (item_of (past q)) (next_of r (past q)) o'

-- from a refused cursor nothing is read
abbrev pub Stays : (end : List ℕ → Cursor → Cursor) → Type 0
Stays end = (s : List ℕ) (c : Cursor) → (c.refused ≡ 0 → ⊥) → end s c ≡ c

-- where a record begins that has none within it
abbrev pub alone : List ℕ → Cursor → List ℕ
alone s c = c.at ∷ []

-- n records, each of which ends where `end` says and begins, with those within it, where `starts` says
abbrev pub PlacesList : (end : List ℕ → Cursor → Cursor) (starts : List ℕ → Cursor → List ℕ) (n : ℕ) (r : Reader) (o : Offsets)
    → Result Reader InputRefusal → Offsets → Type 0
PlacesList end starts n = PlacesRecords (λ s c. iter (end s) c n) (λ s c. concat_below (λ i. starts s (iter (end s) c i)) n)

-- a lookup behind the one of that name, and its name
abbrev pub PlacesLookup : (before : Option Text) (r : Reader) (o : Offsets) → Result (Text × Reader) InputRefusal → Offsets → Type 0
PlacesLookup before r o q o' =
    Placing
    (λ s c. record { value = (read_lookup before s c).value.name; next = (lookup_next s (record { next = c; before = before })).next })
    (λ s c. lookup_records s (record { next = c; before = before })) r o (item_of q) (next_of r q) o'

-- a tree of a pack of k field types, and its section
abbrev pub PlacesTree : (k : ℕ) (r : Reader) (o : Offsets) → Result (Section × Reader) InputRefusal → Offsets → Type 0
PlacesTree k r o q o' =
    Placing
    (λ s c.
    record {
      value = record { count = (read_number s c).value; place = o.count };
      next = pgns k s (read_number s c).next (read_number s c).value;
    })
    (λ s c. pgn_offsets k s (read_number s c).next (read_number s c).value) r o (item_of q) (next_of r q) o'

-- all records of the pack s, from the beginning on
pub record PlacesAll (s w : List ℕ) (q : Result Index InputRefusal) (w' : List ℕ) : Type 0 where
  pub answer : q ≡ outcome (record { value = load_index s; next = pack_end s })
  pub work : (pack_end s).refused ≡ 0 → w' ≡ sets w 0 (offsets s)
