-- Laws of the steps of `load`: records placed one after the other, and where a loop over them stops.
use Rattle.pack.specs.Items.{Cursor, Item, Form, fresh}
use Rattle.std.specs.Prelude.{None, Result, Ok, Err}
use Rattle.std.specs.Result.{IsErrAnd}
use Rattle.std.proofs.lemmas.Result.{err_from_is_err_and}
use Prim.Native.Nat.{ℕ, zero, suc, ◌+◌, ◌-◌, ◌≤◌, ◌<◌}
use native.Mathlib.Omega.{arith}
use native.Mathlib.Numerals.{add-one}
use mathlib.Core.Path.{◌≡◌, refl, ap, ◌∙◌, sym}
use mathlib.Core.List.{List, [], ◌∷◌, ◌++◌}
use borrow.Author.Tests.{eq-eqb, eqb-false}
use Rattle.pack.specs.Records.{read_type, read_entry}
use Rattle.pack.specs.Format.{iter, types, entries, lookup_next, lookup_records, lookups, lookup_offsets}
use Rattle.pack.specs.Format.{field_next, fields}
use Rattle.pack.specs.Format.{field_offsets, pgn_next, pgns}
use Rattle.pack.specs.Reads.{item_of, next_of, outcome, Reads}
use Rattle.pack.specs.Placing.{past, Put, Placing, Stays}
use Rattle.pack.specs.declared.kinds.LookupKind.{LookupKind}
use Rattle.pack.specs.declared.load.Offsets.{Offsets}
use Rattle.pack.specs.declared.reader.Reader.{Reader}
use Rattle.pack.specs.declared.reader.InputRefusal.{InputRefusal}
use Rattle.pack.proofs.Reading.{iter_add, stays, entry_reader, lookup_steps, field_steps}
use Rattle.pack.proofs.ReaderLaws.{outcome_ok, outcome_err, cursor_is}
use Rattle.pack.proofs.Stores.{put_none, put_append}

-- Nothing was refused so far: the reader has come from r to the cursor `end`, and the offsets xs were put.
pub record Along (r : Reader) (o : Offsets) (end : Cursor) (xs : List ℕ) (r' : Reader) (o' : Offsets) : Type 0 where
  pub bytes : r'.bytes.now ≡ r.bytes.now
  pub at : fresh r'.at ≡ end
  pub put : Put o xs o'

-- a record that is refused: what was put does not count
pub placed_refused : {A : Type 0} {form : Form A} {xs : List ℕ → Cursor → List ℕ} {r d : Reader} {o u : Offsets} {f : InputRefusal}
    → Reads r form (Err f) d → Placing form xs r o (Err f) d u
placed_refused {form = form} {r = r} {f = f} b =
    record { reads = b; put = λ m. absurd (eqb-false _ _ (outcome_err (form r.bytes.now (fresh r.at)) f b.answer).0 m) }

pub along_none : (r : Reader) (o : Offsets) → Along r o (fresh r.at) [] r o
along_none r o = record { bytes = refl; at = refl; put = put_none o }

module _ {r : Reader} {o : Offsets} {end : Cursor} {xs : List ℕ} {d : Reader} {v : Offsets} (a : Along r o end xs d v) where
  pub here : {B : Type 0} (f : List ℕ → Cursor → B) → f d.bytes.now (fresh d.at) ≡ f r.bytes.now end
  here f = ap (λ s. f s (fresh d.at)) a.bytes ∙ ap (f r.bytes.now) a.at

  -- a reader of the same bytes at the same offset
  pub along_same : {e : Reader} → e.bytes.now ≡ d.bytes.now → e.at ≡ d.at → Along r o end xs e v
  along_same b z = record { bytes = b ∙ a.bytes; at = ap fresh z ∙ a.at; put = a.put }

  -- the offset of the next record
  pub along_put : {u : Offsets} → Put v (d.at ∷ []) u → Along r o end (xs ++ end.at ∷ []) d u
  along_put b =
      let z : d.at ≡ end.at = ap (λ (c : Cursor). c.at) a.at in
      record { bytes = a.bytes; at = a.at; put = rw z at (put_append a.put b) }

  module _ {A : Type 0} {form : Form A} {x : A} {e : Reader} (b : Reads d form (Ok x) e) where
    abbrev k : Item A
    k = form d.bytes.now (fresh d.at)

    same : k ≡ form r.bytes.now end
    same = here form

    ok : (k.next.refused ≡ 0) × (k.value ≡ x)
    ok = outcome_ok k x b.answer

    -- what was read there
    pub along_value : x ≡ (form r.bytes.now end).value
    along_value = sym ok.1 ∙ ap (λ (i : Item A). i.value) same

    -- an item, or a record whose offset is put
    pub along_read : Along r o (form r.bytes.now end).next xs e v
    along_read =
        record {
          bytes = b.bytes ∙ a.bytes;
          at = cursor_is k.next e.at ok.0 (b.at ok.0) ∙ ap (λ (i : Item A). i.next) same;
          put = a.put;
        }

  -- records placed behind them
  pub along_then : {A : Type 0} {form : Form A} {ys : List ℕ → Cursor → List ℕ} {x : A} {e : Reader} {u : Offsets}
      → Placing form ys d v (Ok x) e u → Along r o (form r.bytes.now end).next (xs ++ ys r.bytes.now end) e u
  along_then {ys = ys} b =
      let z = along_read b.reads in
      let y : ys d.bytes.now (fresh d.at) ≡ ys r.bytes.now end = here ys in
      record { bytes = z.bytes; at = z.at; put = rw y at (put_append a.put (b.put (ok b.reads).0)) }

  -- where a `?` returns: the records at hand are refused with the item that was
  pub refused : {A B : Type 0} {g : Form A} {f : InputRefusal} {e : Reader} {form : Form B} {ys : List ℕ → Cursor → List ℕ} {u : Offsets}
      → Reads d g (Err f) e
      → (((g r.bytes.now end).next.refused ≡ 0 → ⊥) → (form r.bytes.now (fresh r.at)).next ≡ (g r.bytes.now end).next)
      → Placing form ys r o (Err f) e u
  refused {A} {B} {g} {f} {e} {form} {ys} {u} b h =
      let k : g d.bytes.now (fresh d.at) ≡ g r.bytes.now end = here g in
      let o = outcome_err (g r.bytes.now end) f (b.answer ∙ ap outcome k) in
      let n : (g r.bytes.now end).next.refused ≡ 0 → ⊥ = λ m. eqb-false _ _ o.0 m in
      let s = h n in
      placed_refused
      (record {
        bytes = b.bytes ∙ a.bytes;
        answer = (rw (s, o.0, o.1));
        at = λ m. absurd (n (rw (← s) m));
      })

  -- the last of the records at hand, however that went
  pub placed_last : {A : Type 0} {form g : Form A} {ys zs : List ℕ → Cursor → List ℕ} {z : Result A InputRefusal} {e : Reader} {u : Offsets}
      → Placing g ys d v z e u → g r.bytes.now end ≡ form r.bytes.now (fresh r.at)
      → xs ++ ys r.bytes.now end ≡ zs r.bytes.now (fresh r.at) → Placing form zs r o z e u
  placed_last {A} {form} {g} {ys} {zs} {z} {e} {u} b h i =
      let k : g d.bytes.now (fresh d.at) ≡ form r.bytes.now (fresh r.at) = here g ∙ h in
      let y : ys d.bytes.now (fresh d.at) ≡ ys r.bytes.now end = here ys in
      record {
        reads = record {
          bytes = b.reads.bytes ∙ a.bytes;
          answer = b.reads.answer ∙ ap outcome k;
          at = rw k at b.reads.at;
        };
        put = λ m. rw (y, i) at (put_append a.put (b.put (rw k m)));
      }

-- more records behind them
pub placed_append : {A B : Type 0} {form : Form A} {behind : Form B} {xs ys : List ℕ → Cursor → List ℕ} {r d e : Reader} {o v u : Offsets} {x : A}
    {z : Result B InputRefusal} → Placing form xs r o (Ok x) d v → Placing behind ys d v z e u
    → Placing (λ s c. behind s (form s c).next) (λ s c. xs s c ++ ys s (form s c).next) r o z e u
placed_append {r = r} {o = o} a b = placed_last (along_then (along_none r o) a) b refl refl

-- the records at hand are placed
pub placed : {A : Type 0} (form : Form A) (ys : List ℕ → Cursor → List ℕ) {r : Reader} {o : Offsets} {d : Reader} {v : Offsets} {x : A}
    → Along r o (form r.bytes.now (fresh r.at)).next (ys r.bytes.now (fresh r.at)) d v → x ≡ (form r.bytes.now (fresh r.at)).value
    → Placing form ys r o (Ok x) d v
placed {A} form ys {r} {o} {d} {v} {x} a y =
    let z : (form r.bytes.now (fresh r.at)).next.refused ≡ 0 = sym (ap (λ (c : Cursor). c.refused) a.at) in
    record {
      reads = record { bytes = a.bytes; answer = (rw (eq-eqb _ _ z, y)); at = λ _. ap (λ (c : Cursor). c.at) a.at };
      put = λ _. a.put;
    }

-- ---- where a list that is refused stays

-- all behind the one that is refused have its cursor
pub list_stays : {end : List ℕ → Cursor → Cursor} → Stays end → (s : List ℕ) (c : Cursor) (i n : ℕ) → i < n
    → ((end s (iter (end s) c i)).refused ≡ 0 → ⊥) → iter (end s) c n ≡ end s (iter (end s) c i)
list_stays {end} stay s c i n h b =
    let e : n ≡ suc i + (n - suc i) = omega (arith, h) in rw (e, iter_add (end s) c (suc i) (n - suc i)) (held (n - suc i))
  where
    held : (d : ℕ) → iter (end s) (iter (end s) c (suc i)) d ≡ iter (end s) c (suc i)
    held zero = refl
    held (suc d) = stay s _ (λ z. b (rw (held d) at z)) ∙ held d

-- ---- a turn of each loop, and where one that is refused stays

module _ (s : List ℕ) (c : Cursor) where
  pub types_turn : (i : ℕ) → types s c (i + 1) ≡ (read_type s (types s c i)).next
  unfolding types
  types_turn i = rw add-one

  pub entries_turn : (k : LookupKind) (i : ℕ) → entries k s c (i + 1) ≡ (read_entry k s (entries k s c i)).next
  unfolding entries
  entries_turn k i = rw add-one

  pub entries_stay : (k : LookupKind) (i n : ℕ) → i ≤ n → ((entries k s c i).refused ≡ 0 → ⊥) → entries k s c n ≡ entries k s c i
  unfolding entries
  entries_stay k i n h = stays (entry_reader s k) c i n h

  pub lookups_turn : (i : ℕ) → lookups s c (i + 1) ≡ lookup_next s (lookups s c i)
  unfolding lookups
  lookups_turn i = rw add-one

  pub lookup_offsets_turn : (i : ℕ) → lookup_offsets s c (i + 1) ≡ lookup_offsets s c i ++ lookup_records s (lookups s c i)
  unfolding lookup_offsets
  lookup_offsets_turn i = rw add-one

  pub lookups_stay : (i n : ℕ) → i < n → ((lookup_next s (lookups s c i)).next.refused ≡ 0 → ⊥)
      → (lookups s c n).next ≡ (lookup_next s (lookups s c i)).next
  unfolding lookups
  lookups_stay i n h = stays (lookup_steps s) (record { next = c; before = None }) (suc i) n (omega (arith, h))

  pub fields_turn : (k i : ℕ) → fields k s c (i + 1) ≡ field_next k s (fields k s c i)
  unfolding fields
  fields_turn k i = rw add-one

  pub field_offsets_turn : (k i : ℕ) → field_offsets k s c (i + 1) ≡ field_offsets k s c i ++ (fields k s c i).next.at ∷ []
  unfolding field_offsets
  field_offsets_turn k i = rw add-one

  pub fields_stay : (k i n : ℕ) → i < n → ((field_next k s (fields k s c i)).next.refused ≡ 0 → ⊥)
      → (fields k s c n).next ≡ (field_next k s (fields k s c i)).next
  unfolding fields
  fields_stay k i n h = stays (field_steps s k) (record { next = c; total = 0 }) (suc i) n (omega (arith, h))

  pub pgns_turn : (k i : ℕ) → pgns k s c (i + 1) ≡ pgn_next k s (pgns k s c i)
  unfolding pgns
  pgns_turn k i = rw add-one

-- what is told of an answer with the next reader does not depend on where it began, but for its bytes
module _ {A : Type 0} {form : Form A} {xs : List ℕ → Cursor → List ℕ} {r : Reader} (d : Reader) {o u : Offsets} where
  pub rebased : (q : Result (A × Reader) InputRefusal) → Placing form xs r o (item_of q) (next_of d q) u → Placing form xs r o (item_of q) (next_of r q) u
  rebased (Ok x) h = h
  rebased (Err f) h =
      let k = outcome_err (form r.bytes.now (fresh r.at)) f h.reads.answer in
      placed_refused (record { bytes = refl; answer = h.reads.answer; at = λ m. absurd (eqb-false _ _ k.0 m) })

-- where a `?` returns
module _ {A : Type 0} {form : Form A} {xs : List ℕ → Cursor → List ℕ} {r d : Reader} {o u : Offsets} where
  pub placing_out : {f : InputRefusal} (q : Result (A × Reader) InputRefusal) → IsErrAnd q (λ y. y ≡ f) → Placing form xs r o (Err f) d u
      → Placing form xs r o (item_of q) (next_of r q) u
  placing_out {f} q i h = let y = err_from_is_err_and {Q = λ y. y ≡ f} q i in rw (y.1, y.2) (rebased d (Err f) h)

module _ {form : Form (Unit {0})} {xs : List ℕ → Cursor → List ℕ} {r d : Reader} {o u : Offsets} where
  pub past_out : {f : InputRefusal} (q : Result Reader InputRefusal) → IsErrAnd q (λ y. y ≡ f) → Placing form xs r o (Err f) d u
      → Placing form xs r o (item_of (past q)) (next_of r (past q)) u
  past_out {f} q i h = let y = err_from_is_err_and {Q = λ y. y ≡ f} q i in rw (y.1, y.2) (rebased d (Err f) h)
