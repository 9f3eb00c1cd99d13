-- What is remembered of the fields: the mark of each, and the readings at which it stops.
use Rattle.std.specs.Prelude.{◌==◌, if◌then◌else◌}
use Prim.Native.Nat.{ℕ, zero, suc, ◌+◌, ◌*◌, ◌-◌, ◌<◌, ◌≤◌}
use native.Mathlib.Decide.{ℕ_discrete}
use native.Mathlib.Omega.{arith}
use mathlib.Core.Path.{◌≡◌, refl, sym, ap, ◌∙◌}
use mathlib.Core.Bool.{Bool, true, false, not, ◌&&◌, ◌||◌, false≢true}
use mathlib.Core.List.{List}
use Rattle.std.specs.Prelude.{Option, None, Some}
use lib.Dec.{ltb}
use lib.ListN.{length, get_or, set, replicate, length-set, get_or-eq_default}
use lib.Seq.{set_out, get_or-set_same, get_or-set_other}
use borrow.Author.Tests.{ltb-true, ltb-false, leb-true, eqb-true, not-true, eq-eqb}
use Rattle.pack.specs.Notation.{◌<ᵇ◌, ◌≤ᵇ◌}
use Rattle.pack.specs.Meaning.{pack_of}
use Rattle.pack.specs.Value.{Entry, Pgn, Pack, field_at, lookup_at, entry_at}
use Rattle.pack.specs.declared.loaded.LookupRef.{LookupRef}
use Rattle.rules.specs.Model.{lookup_ref}
use Rattle.rules.specs.SearchLaws.{any_turn, any_hit, below_suc}
use Rattle.walk.proofs.Parts.{any_same}
use Rattle.walk.proofs.Tests.{and_l, and_r, none_below, tri}
use Rattle.walk.specs.ByPlace.{placed}
use Rattle.walk.specs.Layout.{layout}
use Rattle.walk.specs.StopParts.{Named, OnlyByReading, SameBut, Collected, Remembered, among, lets_pass}
use Rattle.walk.specs.Stops.{names_missing, entries_name_missing, stop_at}
use Rattle.walk.specs.declared.known.Memory.{Memory}
use Rattle.walk.specs.declared.stops.Stop.{Stop}
use Rattle.walk.specs.declared.stops.Stop.TheVariants.{EntryNamesMissing}

-- ---- what a mark says

-- a field with the mark m lets the reading pass
abbrev pub mark_passes : (m : ℕ) → (bad : List ℕ) → (k reading : ℕ) → Bool
mark_passes m bad k reading = (0 <ᵇ m) && (m <ᵇ 6) && not (among bad (4 * k) (m - 1) reading)

passes_few : (m : ℕ) (bad : List ℕ) (k reading : ℕ) → mark_passes m bad k reading ≡ true → m < 6
passes_few m bad k reading e =
    ltb-true m 6 (and_r (0 <ᵇ m) (m <ᵇ 6) (and_l ((0 <ᵇ m) && (m <ᵇ 6)) (not (among bad (4 * k) (m - 1) reading)) e))

passes_not : (m : ℕ) (bad : List ℕ) (k reading : ℕ) → mark_passes m bad k reading ≡ true → among bad (4 * k) (m - 1) reading ≡ false
passes_not m bad k reading e =
    not-true (among bad (4 * k) (m - 1) reading) (and_r ((0 <ᵇ m) && (m <ᵇ 6)) (not (among bad (4 * k) (m - 1) reading)) e)

pub free_passes : (memory : Memory) (k reading : ℕ) → get_or memory.marks k 0 ≡ 1 → lets_pass memory k reading ≡ true
free_passes memory k reading e = ap (λ (m : ℕ). mark_passes m memory.bad k reading) e

-- ---- nothing is remembered

pub remembered_clear : (P : Pack) (p : Pgn) (memory : Memory) → ((k : ℕ) → get_or memory.marks k 0 ≡ 0) → Remembered P p memory
remembered_clear P p memory c =
    record { never = λ k reading h. absurd (false≢true (sym (ap (λ (m : ℕ). mark_passes m memory.bad k reading) (c k)) ∙ h)) }

pub zeros : (n k : ℕ) → get_or (replicate {A = ℕ} n 0) k 0 ≡ 0
zeros zero k = refl
zeros (suc n) zero = refl
zeros (suc n) (suc k) = zeros n k

-- of marks that begin as `[0; n]`
pub remembered_zeros : (P : Pack) (p : Pgn) (n : ℕ) (bad : List ℕ) → Remembered P p (record { marks = replicate {A = ℕ} n 0; bad = bad })
remembered_zeros P p n bad = remembered_clear P p _ (zeros n)

-- ---- a mark more

pub same_all : (at : ℕ) (bad : List ℕ) → SameBut at bad bad
same_all at bad = record { below = λ i h. refl; above = λ i h. refl }

module _ {bad bad' : List ℕ} {k : ℕ} (same : SameBut (4 * k) bad bad') (j : ℕ) (other : j ≡ k → ⊥) where
  same_reading : (i : ℕ) → i < 4 → get_or bad' (4 * j + i) 0 ≡ get_or bad (4 * j + i) 0
  same_reading i h =
      tri j k (λ l. same.below (4 * j + i) (omega (arith, h, l))) (λ e. absurd (other e)) (λ l. same.above (4 * j + i) (omega (arith, l)))

  same_passes : (m reading : ℕ) → mark_passes m bad' j reading ≡ true → mark_passes m bad j reading ≡ true
  same_passes m reading e =
      let few = passes_few m bad' j reading e in
      sym (ap (λ (b : Bool). (0 <ᵇ m) && (m <ᵇ 6) && not b) (any_same (λ i. get_or bad' (4 * j + i) 0 == reading) (λ i. get_or bad (4 * j + i) 0 == reading)
      (m - 1)
      (λ i h. ap (λ (v : ℕ). v == reading) (same_reading i (omega (arith, few, h))))))
      ∙ e

-- the mark m at field k, whose places alone have changed, is right if what it lets pass does not stop
pub remembered_marked : {P : Pack} {p : Pgn} {memory : Memory} {bad' : List ℕ} (k m : ℕ) → Remembered P p memory → SameBut (4 * k) memory.bad bad'
    → ((reading : ℕ) → mark_passes m bad' k reading ≡ true → stop_at P p (placed (layout p) (suc k)) k reading ≡ None)
    → Remembered P p (record { marks = set memory.marks k m; bad = bad' })
remembered_marked {P} {p} {memory} {bad'} k m r same f =
    record { never = λ j reading h. go j reading (ℕ_discrete j k) h }
  where
    own : (reading : ℕ) (b : Bool) → ltb k (length memory.marks) ≡ b → mark_passes (get_or (set memory.marks k m) k 0) bad' k reading ≡ true
        → stop_at P p (placed (layout p) (suc k)) k reading ≡ None
    own reading true e h =
        f reading (sym (ap (λ (x : ℕ). mark_passes x bad' k reading) (get_or-set_same memory.marks k m 0 (ltb-true k (length memory.marks) e))) ∙ h)
    own reading false e h =
        let l = ltb-false k (length memory.marks) e in
        let z : get_or (set memory.marks k m) k 0 ≡ 0 = ap (λ (x : List ℕ). get_or x k 0) (set_out memory.marks k m l) ∙ get_or-eq_default memory.marks 0 l in
        absurd (false≢true (sym (ap (λ (x : ℕ). mark_passes x bad' k reading) z) ∙ h))

    go : (j reading : ℕ) → Dec (j ≡ k) → mark_passes (get_or (set memory.marks k m) j 0) bad' j reading ≡ true
        → stop_at P p (placed (layout p) (suc j)) j reading ≡ None
    go j reading (yes d) h = let h' = rw d at h in rw d (own reading (ltb k (length memory.marks)) refl h')
    go j reading (no d) h =
        r.never j reading (same_passes same j d (get_or memory.marks j 0) reading
        (sym (ap (λ (x : ℕ). mark_passes x bad' j reading) (get_or-set_other memory.marks k j m 0 d)) ∙ h))

-- ---- the readings at which a field stops

module _ {P : Pack} {es : List Entry} {e at : ℕ} {bad bad' : List ℕ} {n : ℕ} (c : Collected P es e at bad bad' n) where
  as_well : {bad'' : List ℕ} {n' : ℕ} → bad'' ≡ bad' → n' ≡ n → Collected P es e at bad bad'' n'
  as_well x y = rw (x, y) c

  passed_over : names_missing P (entry_at es e) ≡ false → Collected P es (e + 1) at bad bad' n
  passed_over whole =
      record {
        few = c.few;
        others = c.others;
        kept = λ few room i h miss. below_suc i e (omega (arith, h)) (λ l. c.kept few room i l miss)
            (λ q. absurd (false≢true (sym whole ∙ ap (λ (x : ℕ). names_missing P (entry_at es x)) (sym q) ∙ miss)));
      }

  module _ (h : n < 4) (v : ℕ) (is : (entry_at es e).value ≡ v) where
    abbrev put : List ℕ
    put = set bad' (at + n) v

    apart : (i : ℕ) → (i ≡ at + n → ⊥) → get_or put i 0 ≡ get_or bad' i 0
    apart i d = get_or-set_other bad' (at + n) i v 0 d

    still : (reading : ℕ) → among bad' at n reading ≡ true → among put at (n + 1) reading ≡ true
    still reading y =
        any_turn (λ j. get_or put (at + j) 0 == reading) n
        ∙ ap (λ (b : Bool). b || (get_or put (at + n) 0 == reading)) (any_same (λ j. get_or put (at + j) 0 == reading)
        (λ j. get_or bad' (at + j) 0 == reading) n
        (λ j l. ap (λ (x : ℕ). x == reading) (apart (at + j) (λ q. absurd (omega (arith, q, l))))) ∙ y)

    now_kept : at + 4 ≤ length bad' → among put at (n + 1) (entry_at es e).value ≡ true
    now_kept room =
        any_hit (λ j. get_or put (at + j) 0 == (entry_at es e).value) (n + 1) n (omega arith)
        (eq-eqb (get_or put (at + n) 0) (entry_at es e).value (get_or-set_same bad' (at + n) v 0 (omega (arith, room, h)) ∙ sym is))

    taken_in : Collected P es (e + 1) at bad put (n + 1)
    taken_in =
        record {
          few = omega (arith, h);
          others = record {
            below = λ i l. apart i (λ q. absurd (omega (arith, q, l))) ∙ c.others.below i l;
            above = λ i l. apart i (λ q. absurd (omega (arith, q, l, h))) ∙ c.others.above i l;
          };
          kept = λ few room i l miss.
              let room' : at + 4 ≤ length bad' = omega (arith, room (omega arith), length-set bad' (at + n) v) in
              below_suc i e (omega (arith, l)) (λ u. still (entry_at es i).value (c.kept (omega (arith, h)) (λ z. room') i u miss))
              (λ q. ap (λ (x : ℕ). among put at (n + 1) (entry_at es x).value) q ∙ now_kept room');
        }

-- an entry more, of which v is the value and `hit` tells whether it names something missing
pub collected_turn : {P : Pack} {es : List Entry} {e at : ℕ} {bad bad' bad'' : List ℕ} {n n' : ℕ} (hit : Bool) (v : ℕ)
    → Collected P es e at bad bad' n → n ≤ 4 → names_missing P (entry_at es e) ≡ hit → (entry_at es e).value ≡ v
    → n' ≡ (if hit then n + 1 else n) → bad'' ≡ (if hit && (n <ᵇ 4) then set bad' (at + n) v else bad')
    → Collected P es (e + 1) at bad bad'' n'
collected_turn false v c few miss is count values = as_well (passed_over c miss) values count
collected_turn {P} {es} {e} {at} {bad} {bad'} {bad''} {n} {n'} true v c few miss is count values = go (n <ᵇ 4) refl values
  where
    go : (b : Bool) → (n <ᵇ 4) ≡ b → bad'' ≡ (if b then set bad' (at + n) v else bad') → Collected P es (e + 1) at bad bad'' n'
    go true q x = as_well (taken_in c (ltb-true n 4 q) v is) x count
    go false q x =
        let l = ltb-false n 4 q in
        as_well {bad' = bad'} {n = n + 1}
        (record { few = omega (arith, few); others = c.others; kept = λ h. absurd (omega (arith, h, l)) }) x count

-- ---- what a field that stops by its reading alone lets pass

module _ {s : List ℕ} {p : Pgn} {k : ℕ} (O : OnlyByReading (pack_of s) p k) {l : LookupRef} (N : Named s (lookup_ref (field_at p k)) (Some l)) where
  abbrev stops : ℕ → Option Stop
  stops reading = stop_at (pack_of s) p (placed (layout p) (suc k)) k reading

  abbrev entries : List Entry
  entries = (lookup_at (pack_of s).lookups l.item).entries

  -- every reading but the values of the entries that name something missing
  pub none_else : (bad : List ℕ) (at n : ℕ)
      → ((i : ℕ) → i < length entries → names_missing (pack_of s) (entry_at entries i) ≡ true → among bad at n (entry_at entries i).value ≡ true)
      → (reading : ℕ) → among bad at n reading ≡ false → stops reading ≡ None
  unfolding entries_name_missing
  none_else bad at n kept reading missed =
      O.only reading ∙ ap (λ (b : Bool). if b then Some EntryNamesMissing else None) (N.decide reading ∙ none_below _ (length entries) (λ i h.
      go i h ((entry_at entries i).value == reading) (names_missing (pack_of s) (entry_at entries i)) refl refl))
    where
      go : (i : ℕ) → i < length entries → (a b : Bool) → ((entry_at entries i).value == reading) ≡ a → names_missing (pack_of s) (entry_at entries i) ≡ b
          → (a && b) ≡ false
      go i h false b x y = refl
      go i h true false x y = refl
      go i h true true x y =
          absurd (false≢true (sym missed ∙ ap (λ (r : ℕ). among bad at n r) (sym (eqb-true (entry_at entries i).value reading x)) ∙ kept i h y))

  -- so the mark by the number of values is right
  pub none_passed : {bad bad' : List ℕ} {n : ℕ} (e m : ℕ) → Collected (pack_of s) entries e (4 * k) bad bad' n → e ≡ length entries
      → m ≡ (if n == 0 then 1 else (if 4 * k + 4 ≤ᵇ length bad' then n + 1 else 6))
      → (reading : ℕ) → mark_passes m bad' k reading ≡ true → stops reading ≡ None
  none_passed {bad} {bad'} {n} e m c whole is reading h =
      go (n == 0) (4 * k + 4 ≤ᵇ length bad') refl refl (sym (ap (λ (x : ℕ). mark_passes x bad' k reading) is) ∙ h)
    where
      all : n < 5 → (0 < n → 4 * k + 4 ≤ length bad') → among bad' (4 * k) n reading ≡ false → stops reading ≡ None
      all few room missed = none_else bad' (4 * k) n (λ i l. c.kept few room i (omega (arith, l, whole))) reading missed

      go : (a b : Bool) → (n == 0) ≡ a → (4 * k + 4 ≤ᵇ length bad') ≡ b → mark_passes (if a then 1 else (if b then n + 1 else 6)) bad' k reading ≡ true
          → stops reading ≡ None
      go true b x y z =
          let q = eqb-true n 0 x in
          all (omega (arith, q)) (λ l. absurd (omega (arith, l, q))) (ap (λ (i : ℕ). among bad' (4 * k) i reading) q)
      go false true x y z =
          let q : n + 1 - 1 ≡ n = omega arith in
          all (omega (arith, passes_few (n + 1) bad' k reading z)) (λ l. leb-true (4 * k + 4) (length bad') y)
          (sym (ap (λ (i : ℕ). among bad' (4 * k) i reading) q) ∙ passes_not (n + 1) bad' k reading z)
      go false false x y z = absurd (false≢true z)
