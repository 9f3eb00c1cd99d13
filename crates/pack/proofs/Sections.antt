-- The sections of a pack put together: what one walk over it reaches, counts and puts into the work buffer.
use Rattle.pack.specs.Items.{Cursor, Form}
use Rattle.std.specs.Prelude.{Result, Ok, Err, ◌==◌}
use Rattle.std.specs.Result.{IsErrAnd}
use Rattle.std.proofs.lemmas.Result.{err_from_is_err_and}
use Prim.Native.Nat.{ℕ, suc, ◌+◌, ◌≤◌, ◌<◌}
use native.Mathlib.Omega.{arith}
use mathlib.Core.Path.{◌≡◌, refl, ap, ◌∙◌, sym}
use mathlib.Core.List.{List, []}
use lib.ListN.{length, length-append}
use Rattle.pack.specs.Items.{fresh, read_number, read_version, finish}
use Rattle.pack.specs.Notation.{◌<ᵇ◌}
use Rattle.pack.specs.Format.{type_next, types, type_offsets, lookups, lookup_offsets, type_list, lookup_list, tree_start, tree_list, type_part, lookup_part}
use Rattle.pack.specs.Format.{before, offsets, pack_end}
use Rattle.pack.specs.Load.{most_bytes, load_index}
use Rattle.pack.specs.Reads.{outcome, Reads, Ends}
use Rattle.pack.specs.Placing.{Placed, none_in, put_all, placed_in, Put, alone, PlacesRecords, PlacesList, PlacesTree, PlacesAll}
use Rattle.pack.specs.declared.load.Section.{Section}
use Rattle.pack.specs.declared.load.Index.{Index}
use Rattle.pack.specs.declared.load.Offsets.{Offsets}
use Rattle.pack.specs.declared.reader.InputRefusal.{InputRefusal}
use Rattle.pack.specs.declared.reader.Reader.{Reader}
use Rattle.pack.proofs.Reading.{if_all}
use Rattle.pack.proofs.Whole.{Ending}
use Rattle.pack.proofs.Bounds.{before_few, offsets_bound}
use Rattle.pack.proofs.Stores.{put_count, put_stored}
use Rattle.pack.proofs.Places.{Along, along_none, along_value, along_read, along_then, refused, here}
use Rattle.pack.proofs.ReaderLaws.{outcome_err}
use borrow.Author.Tests.{eq-eqb, eqb-false}

-- the end of the pack, as an item
abbrev pub end_form : Form (Unit {0})
end_form s c = record { value = tt; next = finish s c }

finish_at : (s : List ℕ) (c : Cursor) → (finish s c).at ≡ c.at
unfolding finish
finish_at s c =
    let P : Cursor → Type 0 = λ d. d.at ≡ c.at in
    if_all P (c.refused == 0) _ _ (λ _. if_all P (c.at <ᵇ length s) _ _ (λ _. refl) (λ _. refl)) (λ _. refl)

pub ends : {d : Reader} {z : Result (Unit {0}) InputRefusal} → Ends d z → Reads d end_form z d
ends {d} {z} a = record { bytes = refl; answer = a.answer; at = λ _. sym (finish_at d.bytes.now (fresh d.at)) }

-- the whole, as a form
abbrev all_form : Form Index
all_form s c = record { value = load_index s; next = pack_end s }

-- in a pack that is not refused all records are counted, and stored where they are
module _ (s : List ℕ) {w : List ℕ} {o : Offsets} (e : placed_in o ≡ none_in w) (h : length s ≤ most_bytes) (z : (pack_end s).refused ≡ 0) where
  counted : {xs : List ℕ} {v : Offsets} → length xs ≤ length s → Put o xs v → v.count ≡ length xs
  counted {xs} {v} l p =
      let q : placed_in v ≡ put_all (none_in w) xs = p.placed ∙ (rw e) in
      omega (arith, ap (λ (x : Placed). x.count) q, put_count xs (none_in w) (omega (arith, l, h)))

  pub types_counted : {v : Offsets} → Put o (type_part s) v → v.count ≡ length (type_part s)
  unfolding before
  types_counted = counted (omega (arith, length-append (type_part s) (lookup_part s), before_few s z 0 (omega arith)))

  pub counted_before : (t : ℕ) → t ≤ 3 → {v : Offsets} → Put o (before s t) v → v.count ≡ length (before s t)
  counted_before t l = counted (before_few s z t l)

  pub walked : {u : List ℕ} {i : Index} {v : Offsets} → Put o (before s 3) v → u ≡ v.work.now → i ≡ load_index s → PlacesAll s w (Ok i) u
  unfolding offsets
  walked {v = v} p y k =
      let q : placed_in v ≡ put_all (none_in w) (before s 3) = p.placed ∙ (rw e) in
      let few : 0 + length (before s 3) < 18446744073709551616 = omega (arith, before_few s z 3 (omega arith), h) in
      let stored = put_stored (before s 3) (none_in w) (λ k. omega (arith, offsets_bound s k, h)) few in
      record { answer = rw (eq-eqb _ _ z, k); work = λ _. y ∙ ap (λ (x : Placed). x.work) q ∙ stored }

-- nothing refused up to there, in a pack of n field types
pub record Upto (r : Reader) (o : Offsets) (n : ℕ) (end : Cursor) (xs : List ℕ) (d : Reader) (v : Offsets) : Type 0 where
  pub types : n ≡ (type_list r.bytes.now).value
  pub along : Along r o end xs d v

module _ {r : Reader} {o : Offsets} where
  -- where a `?` returns
  pub walk_refused : {end : Cursor} {xs : List ℕ} {d e : Reader} {v : Offsets} {A : Type 0} {g : Form A} {f : InputRefusal} {z : Result Index InputRefusal}
      {w u : List ℕ}
      → Along r o end xs d v → Reads d g (Err f) e → IsErrAnd z (λ y. y ≡ f) → Ending r.bytes.now (g r.bytes.now end).next
      → PlacesAll r.bytes.now w z u
  walk_refused {end} {g = g} {f = f} {z = z} a b i h =
      let p = refused a {form = all_form} {ys = λ s c. offsets s} {u = o} b h in
      let y = err_from_is_err_and {Q = λ y. y ≡ f} z i in
      let n : (g r.bytes.now end).next.refused ≡ 0 → ⊥ = eqb-false _ _ (outcome_err (g r.bytes.now end) f (b.answer ∙ ap outcome (here a g))).0 in
      record { answer = y.1 ∙ (rw y.2) ∙ p.reads.answer; work = λ z. absurd (n (rw (← h n) z)) }

  pub begun : {d : Reader} {v : ℕ} → r.at ≡ 0 → Reads r read_version (Ok v) d → Along r o (read_version r.bytes.now (fresh 0)).next [] d o
  begun {d} {v} z b =
      let a = along_read (along_none r o) b in
      record { bytes = a.bytes; at = a.at ∙ ap (λ k. (read_version r.bytes.now (fresh k)).next) z; put = a.put }

  module _ {n : ℕ} {d e : Reader} where
    pub upto_types : Along r o (read_version r.bytes.now (fresh 0)).next [] d o → Reads d read_number (Ok n) e
        → Upto r o n (type_list r.bytes.now).next [] e o
    unfolding type_list
    upto_types a b = record { types = along_value a b; along = along_read a b }

    module _ {v u : Offsets} where
      pub upto_lookups : Upto r o n (type_list r.bytes.now).next [] d v → PlacesList type_next alone n d v (Ok e) u
          → Upto r o n (types r.bytes.now (type_list r.bytes.now).next (type_list r.bytes.now).value) (type_part r.bytes.now) e u
      unfolding types type_offsets
      upto_lookups a b = record { types = a.types; along = rw a.types at (along_then a.along b) }

      pub upto_tree : (t : ℕ) → Upto r o n (tree_start r.bytes.now t) (before r.bytes.now t) d v → {x : Section} → PlacesTree n d v (Ok (x, e)) u
          → Upto r o n (tree_start r.bytes.now (suc t)) (before r.bytes.now (suc t)) e u
          × (x ≡ record { count = (tree_list r.bytes.now t).value; place = v.count })
      unfolding tree_start tree_list before
      upto_tree t a {x} b = (record { types = a.types; along = rw a.types at (along_then a.along b) }, along_value a.along b.reads)

    pub upto_number : {v : Offsets} {m : ℕ}
        → Upto r o n (types r.bytes.now (type_list r.bytes.now).next (type_list r.bytes.now).value) (type_part r.bytes.now) d v
        → Reads d read_number (Ok m) e
        → Upto r o n (lookup_list r.bytes.now).next (type_part r.bytes.now) e v × (m ≡ (lookup_list r.bytes.now).value)
    unfolding lookup_list
    upto_number a b = (record { types = a.types; along = along_read a.along b }, along_value a.along b)

    pub upto_trees : {v u : Offsets} {m : ℕ} → Upto r o n (lookup_list r.bytes.now).next (type_part r.bytes.now) d v → m ≡ (lookup_list r.bytes.now).value
        → PlacesRecords (λ s c. (lookups s c m).next) (λ s c. lookup_offsets s c m) d v (Ok e) u
        → Upto r o n (tree_start r.bytes.now 0) (before r.bytes.now 0) e u
    unfolding tree_start before
    upto_trees a k b = record { types = a.types; along = rw k at (along_then a.along b) }

  -- at the end nothing was refused
  pub ended : {n : ℕ} {d : Reader} {v : Offsets} → Upto r o n (tree_start r.bytes.now 3) (before r.bytes.now 3) d v → Ends d (Ok tt)
      → (pack_end r.bytes.now).refused ≡ 0
  unfolding pack_end
  ended a b = sym (ap (λ (c : Cursor). c.refused) (along_read a.along (ends b)).at)
