-- The items: each form stays where it was refused, and what a method that reads one promises.
use Rattle.std.specs.Prelude.{ℕ, suc, ◌≡◌, List, Result, Ok, Err, Option, Some, None, true, false, Bool, ◌==◌, if◌then◌else◌}
use Rattle.std.specs.Prelude.{◌+◌, ◌-◌, ◌≤◌, ◌<◌, length}
use Rattle.std.specs.Prelude.{◌*◌, ◌^◌, get_or, take, drop, slice_index, SomeIff, is_some}
use Rattle.std.specs.Int.{w64, from_le_bytes, byte_worth}
use Rattle.std.proofs.lemmas.List.{get_or-take, get_or-drop}
use Rattle.pack.specs.Notation.{◌≤ᵇ◌}
use Rattle.pack.specs.Items.{four}
use Rattle.std.specs.Bool.{then_some}
use Rattle.std.proofs.lemmas.Option.{none-some, same_Some}
use mathlib.Core.Path.{refl, sym, ◌∙◌}
use mathlib.Core.Bool.{false≢true}
use Rattle.pack.specs.Notation.{◌<ᵇ◌}
use native.Mathlib.Omega.{arith}
use borrow.Author.Tests.{eqb-false, ne_eqb}
use Rattle.pack.specs.declared.reader.Reader.{Reader}
use Rattle.pack.specs.declared.kinds.LookupKind.{LookupKind}
use Rattle.pack.specs.declared.text.Text.{Text}
use Rattle.pack.specs.Items.{Cursor, Form, fresh, ◌▷◌, give, optional, read_wide, read_number, read_code, read_index, read_sum, read_bytes}
use Rattle.pack.specs.Items.{read_mark, read_text, read_name, read_float, refuse, last_byte_at, shortest, capped, groups, rises, largest32}
use Rattle.pack.specs.Records.{read_kind_part, read_reference, read_repeating, read_scaling, read_authored, read_links}
use Rattle.pack.specs.Reads.{fault_of, outcome, Reads}
use Rattle.pack.proofs.Reading.{wide_reader, number_reader, version_reader, code_reader, index_reader, sum_reader, bytes_reader, mark_reader, text_reader}
use Rattle.pack.proofs.Reading.{name_reader, float_reader, kind_part_reader, repeating_reader, scaling_reader, authored_reader, reference_reader, links_reader}
use Rattle.pack.proofs.Reading as reading
use Rattle.pack.specs.declared.reader.InputRefusal.{InputRefusal}
use borrow.Author.Tests.{le-leb, lt-leb}
use Rattle.pack.specs.Items.{judged}
use Rattle.pack.specs.Reads as spec
use Rattle.pack.proofs.ReaderLaws.{outcome_ok, outcome_err, cursor_is, Sticks, done, reads_then, reads_stop, sticks_then, sticks_give}

sticks : {A : Type 0} (p : Form A) → ((s : List ℕ) → reading.Reader s (λ c. (p s c).next)) → Sticks p
sticks p r = record { stays = λ s c h. (r s).sticky c (λ e. eqb-false _ _ h e) }

pub sticks_wide : (most : ℕ) → Sticks (read_wide most)
sticks_wide most = sticks _ (λ s. wide_reader s most)

pub sticks_number : Sticks read_number
sticks_number = sticks _ (λ s. number_reader s)

pub sticks_code : (most : ℕ) → Sticks (read_code most)
sticks_code most = sticks _ (λ s. code_reader s most)

pub sticks_index : (count : ℕ) → Sticks (read_index count)
sticks_index count = sticks _ (λ s. index_reader s count)

pub sticks_sum : (other : ℕ) → Sticks (read_sum other)
sticks_sum other = sticks _ (λ s. sum_reader s other)

pub sticks_bytes : Sticks read_bytes
sticks_bytes = sticks _ (λ s. bytes_reader s)

pub sticks_mark : Sticks read_mark
sticks_mark = sticks _ (λ s. mark_reader s)

pub sticks_text : Sticks read_text
sticks_text = sticks _ (λ s. text_reader s)

pub sticks_float : Sticks read_float
sticks_float = sticks _ (λ s. float_reader s)

pub sticks_if : {A : Type 0} (p q : Form A) → Sticks p → Sticks q → (b : Bool) → Sticks (if b then p else q)
sticks_if p q a b true = a
sticks_if p q a b false = b

pub sticks_optional : {A : Type 0} (p : Form A) → Sticks p → Sticks (optional p)
unfolding optional
sticks_optional p a = sticks_then _ _ sticks_mark (λ b. sticks_if _ _ (sticks_then _ _ a (λ v. sticks_give _)) (sticks_give _) b)

pub sticks_kind_part : (kind : LookupKind) → Sticks (read_kind_part kind)
sticks_kind_part kind = sticks _ (λ s. kind_part_reader s kind)

pub sticks_reference : Sticks read_reference
sticks_reference = sticks _ (λ s. reference_reader s)

pub sticks_repeating : Sticks read_repeating
sticks_repeating = sticks _ (λ s. repeating_reader s)

pub sticks_scaling : (total : ℕ) → Sticks (read_scaling total)
sticks_scaling total = sticks _ (λ s. scaling_reader s total)

pub sticks_authored : Sticks read_authored
sticks_authored = sticks _ (λ s. authored_reader s)

pub sticks_links : (bits : ℕ) → Sticks (read_links bits)
sticks_links bits = sticks _ (λ s. links_reader s bits)

-- an item that was read
pub reads_ok : {A : Type 0} (c d : Reader) (p : Form A) (v : A) (e : ℕ) → p c.bytes.now (fresh c.at) ≡ record { value = v; next = fresh e }
    → d.bytes.now ≡ c.bytes.now → d.at ≡ e → Reads c p (Ok v) d
reads_ok c d p v e h b a = record { bytes = b; answer = rw h refl; at = λ z. rw h a }

-- an item that was refused
pub reads_err : {A : Type 0} (c d : Reader) (p : Form A) (v : A) (at n : ℕ)
    → p c.bytes.now (fresh c.at) ≡ record { value = v; next = record { at = at; refused = suc n } }
    → d.bytes.now ≡ c.bytes.now → Reads c p (Err (record { fault = fault_of (suc n); offset = at })) d
reads_err c d p v at n h b = record {
  bytes = b;
  answer = rw (h, ne_eqb (suc n) 0 (λ e. absurd (omega arith))) refl;
  at = λ z. let y : suc n ≡ 0 =
      rw h at z in absurd (omega arith);
}

-- what the answer says of the item
pub was_read : {A : Type 0} {c d : Reader} {p : Form A} {v : A} → Reads c p (Ok v) d → p c.bytes.now (fresh c.at) ≡ record { value = v; next = fresh d.at }
was_read {A} {c} {d} {p} {v} a =
    let i = p c.bytes.now (fresh c.at) in
    let o = outcome_ok i v a.answer in
    let k : fresh d.at ≡ i.next = cursor_is i.next d.at o.0 (a.at o.0) in
    rw (k, ← o.1) refl

-- where a `?` returns from an item that is part of another
pub reads_pass : {A B : Type 0} {c d : Reader} {f : InputRefusal} {p : Form A} (q : Form B) → Reads c p (Err f) d
    → ((s : List ℕ) (k : Cursor) → ((p s k).next.refused == 0) ≡ false → (q s k).next ≡ (p s k).next) → Reads c q (Err f) d
reads_pass {A} {B} {c} {d} {f} {p} q a h =
    let o = outcome_err (p c.bytes.now (fresh c.at)) f a.answer in
    let z = h c.bytes.now (fresh c.at) o.0 in
    record {
      bytes = a.bytes;
      answer = rw (z, o.0, o.1) refl;
      at = λ w. absurd (eqb-false _ _ o.0 (rw (← z) w));
    }

-- ---- numbers

none_of : {A : Type 0} (b : Bool) (x : A) → None ≡ then_some b x → b ≡ false
none_of true x h = absurd (none-some x h)
none_of false x h = refl

some_of : {A : Type 0} (b : Bool) (x y : A) → Some y ≡ then_some b x → (b ≡ true) × (x ≡ y)
some_of true x y h = (refl, same_Some _ _ (sym h))
some_of false x y h = absurd (none-some y (sym h))

module _ (s : List ℕ) (at most : ℕ) where
  pub wide_cut : None ≡ then_some (last_byte_at s at <ᵇ length s) (last_byte_at s at)
      → read_wide most s (fresh at) ≡ record { value = 0; next = refuse (fresh at) 1 }
  unfolding read_wide
  wide_cut h = rw (none_of _ _ h)

  module _ (e : ℕ) (h : Some e ≡ then_some (last_byte_at s at <ᵇ length s) (last_byte_at s at)) where
    pub wide_long_form : shortest s at e ≡ false → read_wide most s (fresh at) ≡ record { value = 0; next = refuse (fresh at) 2 }
    unfolding read_wide
    wide_long_form b = let o = some_of _ _ _ h in let x = rw o.1 at o.0 in rw (o.1, x, b)

    pub wide_over : shortest s at e ≡ true → None ≡ capped most (groups s (e + 1) (e + 1 - at))
        → read_wide most s (fresh at) ≡ record { value = 0; next = refuse (fresh at) 2 }
    unfolding read_wide
    wide_over b n = let o = some_of _ _ _ h in let x = rw o.1 at o.0 in rw (o.1, x, b, ← n)

    pub wide_read : shortest s at e ≡ true → (v : ℕ) → Some v ≡ capped most (groups s (e + 1) (e + 1 - at))
        → read_wide most s (fresh at) ≡ record { value = v; next = fresh (e + 1) }
    unfolding read_wide
    wide_read b v n = let o = some_of _ _ _ h in let x = rw o.1 at o.0 in rw (o.1, x, b, ← n)

-- a number that is judged by a test
module _ (test : ℕ → Bool) (k : ℕ) where
  abbrev tested : Form ℕ
  tested s c = judged c (read_number s c) (test (read_number s c).value) (suc k)

  pub reads_judged : {c d : Reader} {n : ℕ} {r : Result (ℕ × Reader) InputRefusal} → Reads c read_number (Ok n) d
      → r ≡ spec.refuse_unless c n (test n) (fault_of (suc k)) d → spec.Gives c tested r
  unfolding judged
  reads_judged {c} {d} {n} {r} a e = go (test n) refl
    where
      go : (b : Bool) → test n ≡ b → spec.Gives c tested r
      go true x = rw (e, x) (reads_ok c d tested n d.at (rw (was_read a, x)) a.bytes refl)
      go false x = rw (e, x) (reads_err c c tested 0 c.at k (rw (was_read a, x)) refl)

  pub judged_out : {c d : Reader} {f : InputRefusal} → Reads c read_number (Err f) d → Reads c tested (Err f) d
  unfolding judged
  judged_out a = reads_pass tested a (λ s c h. rw h)

-- ---- texts

pub reads_text : {c d : Reader} {n : ℕ} (e : Reader) → Reads c read_number (Ok n) d → d.at + n ≤ length d.bytes.now → e.bytes.now ≡ d.bytes.now
    → e.at ≡ d.at + n
    → Reads c read_text (Ok (record { start = d.at; len = n })) e
unfolding read_text
reads_text {c} {d} {n} e a h b z =
    let w : d.at + n ≤ length c.bytes.now = rw a.bytes at h in
    reads_ok c e read_text _ (d.at + n) (rw (was_read a, le-leb _ _ w)) (b ∙ a.bytes) z

pub text_cut : {c d : Reader} {n : ℕ} → Reads c read_number (Ok n) d → length d.bytes.now < d.at + n
    → Reads c read_text (Err (record { fault = fault_of 1; offset = c.at })) c
unfolding read_text
text_cut {c} {d} {n} a h =
    let w : length c.bytes.now < d.at + n = rw a.bytes at h in
    reads_err c c read_text (record { start = 0; len = 0 }) c.at 0 (rw (was_read a, lt-leb _ _ w)) refl

pub text_out : {c d : Reader} {f : InputRefusal} → Reads c read_number (Err f) d → Reads c read_text (Err f) d
unfolding read_text
text_out a = reads_pass read_text a (λ s c h. rw h)

module _ (before : Option Text) where
  pub reads_name : {c d : Reader} {t : Text} → Reads c read_text (Ok t) d → rises d.bytes.now before t ≡ true → Reads c (read_name before) (Ok t) d
  unfolding read_name
  reads_name {c} {d} {t} a k = let h = rw a.bytes at k in reads_ok c d (read_name before) t d.at (rw (was_read a, h)) a.bytes refl

  pub name_order : {c d : Reader} {t : Text} → Reads c read_text (Ok t) d → rises d.bytes.now before t ≡ false
      → Reads c (read_name before) (Err (record { fault = fault_of 5; offset = c.at })) c
  unfolding read_name
  name_order {c} {d} {t} a k = let h = rw a.bytes at k in reads_err c c (read_name before) (record { start = 0; len = 0 }) c.at 4 (rw (was_read a, h)) refl

  pub name_out : {c d : Reader} {f : InputRefusal} → Reads c read_text (Err f) d → Reads c (read_name before) (Err f) d
  unfolding read_name
  name_out a = reads_pass (read_name before) a (λ s c h. rw h)

pub number_out : {c d : Reader} {f : InputRefusal} → Reads c (read_wide largest32) (Err f) d → Reads c read_number (Err f) d
unfolding read_number
number_out a = reads_pass read_number a (λ s c h. refl)

-- ---- sums in 32 bits, and floats

pub checked : (o : Option ℕ) (n : ℕ) → SomeIff o (n < 2 ^ 32) n → is_some o ≡ (n ≤ᵇ largest32)
checked None n h = sym (lt-leb _ _ (omega (arith, h)))
checked (Some v) n h = sym (le-leb _ _ (omega (arith, h)))

float_value : (s bs : List ℕ) (at : ℕ) → bs ≡ take 8 (drop at s) → from_le_bytes w64 bs ≡ four s at + 2 ^ 32 * four s (at + 4)
float_value s bs at e =
    let a : (i : ℕ) → i < 8 → slice_index bs i ≡ get_or s (at + i) 0 = λ i h. rw e (get_or-take 8 (drop at s) i 0 h ∙ get_or-drop at s i 0) in
    let b0 : byte_worth 0 (slice_index bs 0) ≡ get_or s at 0 = let z : at + 0 ≡ at = omega arith in rw z at (a 0 (omega arith)) in
    let b1 : byte_worth 1 (slice_index bs 1) ≡ get_or s (at + 1) 0 * 256 = rw (a 1 (omega arith)) refl in
    let b2 : byte_worth 2 (slice_index bs 2) ≡ get_or s (at + 2) 0 * 65536 = rw (a 2 (omega arith)) refl in
    let b3 : byte_worth 3 (slice_index bs 3) ≡ get_or s (at + 3) 0 * 16777216 = rw (a 3 (omega arith)) refl in
    let b4 : byte_worth 4 (slice_index bs 4) ≡ get_or s (at + 4) 0 * 4294967296 = rw (a 4 (omega arith)) refl in
    let b5 : byte_worth 5 (slice_index bs 5) ≡ get_or s (at + 4 + 1) 0 * 1099511627776 = let z : at + 5 ≡ at + 4 + 1 =
    omega arith in rw (a 5 (omega arith), z) refl in
    let b6 : byte_worth 6 (slice_index bs 6) ≡ get_or s (at + 4 + 2) 0 * 281474976710656 = let z : at + 6 ≡ at + 4 + 2 =
    omega arith in rw (a 6 (omega arith), z) refl in
    let b7 : byte_worth 7 (slice_index bs 7) ≡ get_or s (at + 4 + 3) 0 * 72057594037927936 = let z : at + 7 ≡ at + 4 + 3 =
    omega arith in rw (a 7 (omega arith), z) refl in
    omega arith

pub reads_float : (c d : Reader) (bs : List ℕ) → c.at + 8 ≤ length c.bytes.now → bs ≡ take 8 (drop c.at c.bytes.now) → d.bytes.now ≡ c.bytes.now
    → d.at ≡ c.at + 8 → Reads c read_float (Ok (from_le_bytes w64 bs)) d
unfolding read_float
reads_float c d bs h e b z = rw (float_value c.bytes.now bs c.at e) (reads_ok c d read_float _ (c.at + 8) (rw (le-leb _ _ h) refl) b z)

pub float_cut : (c d : Reader) → length c.bytes.now < c.at + 8 → d.bytes.now ≡ c.bytes.now
    → Reads c read_float (Err (record { fault = fault_of 1; offset = c.at })) d
unfolding read_float
float_cut c d h b = reads_err c d read_float 0 c.at 0 (rw (lt-leb _ _ h) refl) b

-- ---- optional items

-- a mark that is refused is false
mark_false : (s : List ℕ) (c : Cursor) → ((read_mark s c).next.refused == 0) ≡ false → (read_mark s c).value ≡ false
unfolding read_mark read_code judged ◌▷◌ give
mark_false s c h = go ((read_number s c).next.refused == 0) refl ((read_number s c).value ≤ᵇ 1) refl
  where
    go : (a : Bool) → ((read_number s c).next.refused == 0) ≡ a → (b : Bool) → ((read_number s c).value ≤ᵇ 1) ≡ b → (read_mark s c).value ≡ false
    go true x true y = let z = rw (x, y, x) at h in absurd (false≢true (sym z))
    go true x false y = rw (x, y) refl
    go false x b y = rw x refl

module _ {A : Type 0} (p : Form A) where
  pub optional_given : {c d e : Reader} {b : Bool} {v : A} → Reads c read_mark (Ok b) d → b ≡ true → Reads d p (Ok v) e
      → Reads c (optional p) (Ok (Some v)) e
  unfolding optional
  optional_given m z a = reads_then _ _ m (rw z (reads_then _ _ a (done _ _)))

  pub optional_out : {c d e : Reader} {b : Bool} {f : InputRefusal} → Reads c read_mark (Ok b) d → b ≡ true
      → Reads d p (Err f) e → Reads c (optional p) (Err f) e
  unfolding optional
  optional_out m z a = reads_then _ _ m (rw z (reads_stop _ _ a (λ v. sticks_give _)))

  pub optional_none : {c d : Reader} {b : Bool} → Reads c read_mark (Ok b) d → b ≡ false → Reads c (optional p) (Ok None) d
  unfolding optional
  optional_none m z = reads_then _ _ m (rw z (done _ _))

  pub mark_out : {c d : Reader} {f : InputRefusal} → Reads c read_mark (Err f) d → Reads c (optional p) (Err f) d
  unfolding optional ◌▷◌ give
  mark_out m = reads_pass (optional p) m (λ s c h. rw (mark_false s c h) refl)

-- ---- chains of `?`

pub ruleset reads = (
  done,
  reads_then,
  reads_stop,
  sticks_then,
  sticks_give,
  sticks_wide,
  sticks_number,
  sticks_code,
  sticks_index,
  sticks_sum,
  sticks_bytes,
  sticks_mark,
  sticks_text,
  sticks_float,
  sticks_optional,
  sticks_kind_part,
  sticks_reference,
  sticks_repeating,
  sticks_scaling,
  sticks_authored,
  sticks_links,
)
