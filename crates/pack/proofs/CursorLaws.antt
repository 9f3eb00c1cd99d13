-- How the cursor's items follow from the reader's: an item by itself is empty where it is refused. And a record, from its items.
use Rattle.std.specs.Prelude.{Option, None, Some, Result, Ok, Err, ◌==◌}
use Prim.Native.Nat.{ℕ, suc, ◌+◌, ◌-◌, ◌*◌, ◌≤◌, ◌<◌}
use native.Mathlib.Omega.{arith}
use mathlib.Core.Path.{◌≡◌, refl, sym, ◌∙◌}
use mathlib.Core.Bool.{Bool, true, false, true≢false}
use mathlib.Core.List.{List}
use borrow.Author.Tests.{eqb-true, le-ltb, lt-leb}
use lib.ListN.{length}
use Rattle.pack.specs.Notation.{◌<ᵇ◌, ◌≤ᵇ◌}
use Rattle.pack.specs.Items.{Cursor, Item, Form, fresh, refuse, give, ◌▷◌, last_byte_at, capped, groups, shortest, decoded, largest32}
use Rattle.pack.specs.Items.{judged, rises, read_wide, read_number, read_code, read_version, read_index, read_sum, read_bytes, read_mark}
use Rattle.pack.specs.Items.{read_text, read_name, read_float}
use Rattle.pack.specs.Reads.{refusal_of, Gives}
use Rattle.pack.specs.Cursors.{StandsAt, item_read}
use Rattle.pack.specs.Load.{fault_number}
use Rattle.pack.specs.declared.text.Text.{Text}
use Rattle.pack.specs.declared.reader.InputRefusal.{InputRefusal}
use Rattle.pack.specs.declared.reader.Reader.{Reader}
use Rattle.pack.proofs.Reading.{if_all, wide_reader, text_reader, name_reader, float_reader}
use Rattle.pack.proofs.Free.{sum_fits}
use Rattle.pack.proofs.ReaderLaws.{outcome_err}
use Rattle.pack.proofs.ReaderItems.{was_read}
use Rattle.pack.proofs.Told.{fault_numbered}

-- An item by itself: where it is refused it is empty; it is by a cursor refused before, one behind the bytes, or one on the way.
pub record Leaf {A : Type 0} (form : Form A) (empty : A) : Type 0 where
  pub stays : (s : List ℕ) (c : Cursor) → (c.refused == 0) ≡ false → form s c ≡ record { value = empty; next = c }
  pub behind : (s : List ℕ) (c : Cursor) → (c.refused == 0) ≡ true → length s < c.at → form s c ≡ record { value = empty; next = refuse c 1 }
  pub refused : (s : List ℕ) (c : Cursor) → ((form s c).next.refused == 0) ≡ false → (form s c).value ≡ empty
  pub numbered : (s : List ℕ) (at : ℕ) → (form s (fresh at)).next.refused ≤ 8

module _ {A : Type 0} {form : Form A} {empty : A} (leaf : Leaf form empty) where
  by_reader : (r : Reader) (q : Result (A × Reader) InputRefusal) → Gives r form q → item_read q empty ≡ form r.bytes.now (fresh r.at)
  by_reader r (Ok x) h = sym (was_read h)
  by_reader r (Err e) h =
      let i = form r.bytes.now (fresh r.at) in
      let o = outcome_err i e h.answer in
      let n : fault_number (refusal_of i.next).fault ≡ i.next.refused = fault_numbered i.next.refused o.0 (leaf.numbered r.bytes.now r.at) in
      rw (o.1, n, ← leaf.refused r.bytes.now (fresh r.at) o.0) refl

  -- what the method of the reader answers is the item
  pub leaf_read : {s : List ℕ} {c : Cursor} {r : Reader} {t : Result Reader Cursor} (q : Result (A × Reader) InputRefusal) {i : Item A}
      → StandsAt c s t → t ≡ Ok r → Gives r form q → i ≡ item_read q empty → i ≡ form s c
  leaf_read {s} {c} {r} {t} q {i} h e g z =
      let k : StandsAt c s (Ok r) = rw e at h in
      z ∙ by_reader r q g ∙ rw (k.0, k.1) refl

  -- where no reader stands
  pub leaf_none : {s : List ℕ} {c next : Cursor} {t : Result Reader Cursor} → StandsAt c s t → t ≡ Err next
      → record { value = empty; next = next } ≡ form s c
  leaf_none {s} {c} {next} {t} h e =
      let k : StandsAt c s (Err next) = rw e at h in
      go (c.refused == 0) refl k
    where
      go : (b : Bool) → (c.refused == 0) ≡ b → StandsAt c s (Err next) → record { value = empty; next = next } ≡ form s c
      go true x k = rw (k.0, x) (sym (leaf.behind s c x (k.1 x)))
      go false x k = rw (k.0, x) (sym (leaf.stays s c x))

-- ---- the items

behind_bytes : (s : List ℕ) (at : ℕ) → length s < at → (last_byte_at s at <ᵇ length s) ≡ false
behind_bytes s at h = le-ltb _ _ (omega arith)

decoded_empty : (c : Cursor) (e : ℕ) (o : Option ℕ) → (c.refused == 0) ≡ true → ((decoded c e o).next.refused == 0) ≡ false → (decoded c e o).value ≡ 0
decoded_empty c e None x h = refl
decoded_empty c e (Some v) x h = absurd (true≢false (sym x ∙ h))

pub leaf_wide : (most : ℕ) → Leaf (read_wide most) 0
unfolding read_wide
leaf_wide most =
    record {
      stays = λ s c h. rw h refl;
      behind = λ s c z h. rw (z, behind_bytes s c.at h) refl;
      refused = λ s c h. empty s c h;
      numbered = λ s at. (wide_reader s most).numbered (fresh at) (omega arith);
    }
  where
    empty : (s : List ℕ) (c : Cursor) → ((read_wide most s c).next.refused == 0) ≡ false → (read_wide most s c).value ≡ 0
    empty s c =
        let l = last_byte_at s c.at in
        let P : Item ℕ → Type 0 = λ w. (w.next.refused == 0) ≡ false → w.value ≡ 0 in
        if_all P (c.refused == 0) _ _
        (λ x. if_all P (l <ᵇ length s) _ _
        (λ _. if_all P (shortest s c.at l) _ _
        (λ _. decoded_empty c (l + 1) (capped most (groups s (l + 1) (l + 1 - c.at))) x)
        (λ _ _. refl))
        (λ _ _. refl))
        (λ _ _. refl)

pub leaf_number : Leaf read_number 0
unfolding read_number
leaf_number = leaf_wide largest32

leaf_judged : (test : ℕ → Bool) (k : ℕ) → suc k ≤ 8 → Leaf (λ s c. judged c (read_number s c) (test (read_number s c).value) (suc k)) 0
unfolding judged
leaf_judged test k l =
    record {
      stays = λ s c h. rw (leaf_number.stays s c h, h) refl;
      behind = λ s c z h. rw (leaf_number.behind s c z h) refl;
      refused = λ s c.
          (if_all (λ (w : Item ℕ). (w.next.refused == 0) ≡ false → w.value ≡ 0) ((read_number s c).next.refused == 0) _ _
          (λ x. if_all (λ (w : Item ℕ). (w.next.refused == 0) ≡ false → w.value ≡ 0) (test (read_number s c).value) _ _
          (λ _ h. absurd (true≢false (sym x ∙ h)))
          (λ _ _. refl))
          (λ _ _. refl));
      numbered = λ s at.
          (if_all (λ (w : Item ℕ). w.next.refused ≤ 8) ((read_number s (fresh at)).next.refused == 0) _ _
          (λ _. if_all (λ (w : Item ℕ). w.next.refused ≤ 8) (test (read_number s (fresh at)).value) _ _
          (λ _. leaf_number.numbered s at)
          (λ _. l))
          (λ _. leaf_number.numbered s at));
    }

pub leaf_version : Leaf read_version 0
unfolding read_version
leaf_version = leaf_judged (λ v. v == 1) 2 (omega arith)

pub leaf_code : (most : ℕ) → Leaf (read_code most) 0
unfolding read_code
leaf_code most = leaf_judged (λ v. v ≤ᵇ most) 3 (omega arith)

pub leaf_index : (count : ℕ) → Leaf (read_index count) 0
unfolding read_index
leaf_index count = leaf_judged (λ v. v <ᵇ count) 5 (omega arith)

pub leaf_sum : (other : ℕ) → Leaf (read_sum other) 0
unfolding read_sum
leaf_sum other = leaf_judged (λ v. other + v ≤ᵇ largest32) 6 (omega arith)

pub leaf_bytes : Leaf read_bytes 0
unfolding read_bytes
leaf_bytes = leaf_judged (λ v. v * 8 ≤ᵇ largest32) 6 (omega arith)

pub leaf_mark : Leaf read_mark false
unfolding read_mark ◌▷◌ give
leaf_mark =
    record {
      stays = λ s c h. rw ((leaf_code 1).stays s c h) refl;
      behind = λ s c z h. rw ((leaf_code 1).behind s c z h) refl;
      refused = λ s c h. rw ((leaf_code 1).refused s c h) refl;
      numbered = λ s at. (leaf_code 1).numbered s at;
    }

abbrev no_text : Text
no_text = record { start = 0; len = 0 }

pub leaf_text : Leaf read_text no_text
unfolding read_text
leaf_text =
    record {
      stays = λ s c h. rw (leaf_number.stays s c h, h) refl;
      behind = λ s c z h. rw (leaf_number.behind s c z h) refl;
      refused = λ s c.
          (let n = read_number s c in
          if_all (λ (w : Item Text). (w.next.refused == 0) ≡ false → w.value ≡ no_text) (n.next.refused == 0) _ _
          (λ x. if_all (λ (w : Item Text). (w.next.refused == 0) ≡ false → w.value ≡ no_text) (n.next.at + n.value ≤ᵇ length s) _ _
          (λ _ h. absurd (true≢false (sym x ∙ h)))
          (λ _ _. refl))
          (λ _ _. refl));
      numbered = λ s at. (text_reader s).numbered (fresh at) (omega arith);
    }

pub leaf_name : (before : Option Text) → Leaf (read_name before) no_text
unfolding read_name
leaf_name before =
    record {
      stays = λ s c h. rw (leaf_text.stays s c h, h) refl;
      behind = λ s c z h. rw (leaf_text.behind s c z h) refl;
      refused = λ s c.
          (let t = read_text s c in
          if_all (λ (w : Item Text). (w.next.refused == 0) ≡ false → w.value ≡ no_text) (t.next.refused == 0) _ _
          (λ x. if_all (λ (w : Item Text). (w.next.refused == 0) ≡ false → w.value ≡ no_text) (rises s before t.value) _ _
          (λ _ h. absurd (true≢false (sym x ∙ h)))
          (λ _ _. refl))
          (λ x _. leaf_text.refused s c x));
      numbered = λ s at. (name_reader s before).numbered (fresh at) (omega arith);
    }

pub leaf_float : Leaf read_float 0
unfolding read_float
leaf_float =
    record {
      stays = λ s c h. rw h refl;
      behind = λ s c z h. (let l : length s < c.at + 8 = omega (arith, h) in rw (z, lt-leb _ _ l) refl);
      refused = λ s c.
          (if_all (λ (w : Item ℕ). (w.next.refused == 0) ≡ false → w.value ≡ 0) (c.refused == 0) _ _
          (λ x. if_all (λ (w : Item ℕ). (w.next.refused == 0) ≡ false → w.value ≡ 0) (c.at + 8 ≤ᵇ length s) _ _
          (λ _ h. absurd (true≢false (sym x ∙ h)))
          (λ _ _. refl))
          (λ _ _. refl));
      numbered = λ s at. (float_reader s).numbered (fresh at) (omega arith);
    }

-- what a sum lets pass fits, and what it refuses is 0
pub sum_within : (other : ℕ) (s : List ℕ) (c : Cursor) → other ≤ largest32 → other + (read_sum other s c).value ≤ largest32
sum_within other s c l = go ((read_sum other s c).next.refused == 0) refl
  where
    go : (b : Bool) → ((read_sum other s c).next.refused == 0) ≡ b → other + (read_sum other s c).value ≤ largest32
    go true x = sum_fits s c other (eqb-true _ _ x)
    go false x = rw ((leaf_sum other).refused s c x) (omega (arith, l))

-- ---- one item, and then what follows it

pub item_then : {A B : Type 0} (p : Form A) (q : A → Form B) {s : List ℕ} {c : Cursor} {i : Item A} {j : Item B} → i ≡ p s c
    → j ≡ q i.value s i.next → j ≡ (p ▷ q) s c
unfolding ◌▷◌
item_then p q {s} {c} {i} {j} a b = rw (← a) b

pub item_done : {A : Type 0} (v : A) (s : List ℕ) (c : Cursor) → record { value = v; next = c } ≡ give v s c
unfolding give
item_done v s c = refl
