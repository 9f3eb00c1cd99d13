-- A record that was read within its pack reads the same by itself: what stands before it can only refuse it.
use Rattle.pack.specs.Items.{Cursor, Item}
use Rattle.std.specs.Prelude.{◌==◌}
use Prim.Native.Nat.{ℕ, suc, ◌+◌, ◌≤◌, ◌<◌}
use native.Mathlib.Omega.{arith}
use mathlib.Core.Path.{◌≡◌, refl, ◌∙◌, sym}
use mathlib.Core.List.{List}
use mathlib.Core.Bool.{Bool, true, false}
use borrow.Author.Tests.{eq-eqb, lt-ltb, le-leb, ltb-true, leb-true}
use Rattle.pack.specs.Notation.{◌<ᵇ◌, ◌≤ᵇ◌}
use Rattle.pack.specs.Items.{◌▷◌, give, rises, largest32, read_number, judged, read_code, read_index, read_sum, read_text, read_name}
use Rattle.pack.specs.Records.{read_lookup, read_names, read_scaling, read_authored, read_field}
use Rattle.std.specs.Prelude.{Option, None}
use Rattle.pack.specs.declared.text.Text.{Text}
use Rattle.pack.proofs.Reading.{back, code_reader, number_reader, text_reader, float_reader, optional_reader, scaling_reader, authored_reader, links_reader}

-- what was judged and is not refused is the item itself, and good
judged_clean : (c : Cursor) (item : Item ℕ) (good : Bool) (n : ℕ) → (judged c item good (suc n)).next.refused ≡ 0
    → (judged c item good (suc n) ≡ item) × (good ≡ true) × ((item.next.refused == 0) ≡ true)
unfolding judged
judged_clean c item good n e = go (item.next.refused == 0) refl good refl
  where
    go : (a : Bool) → (item.next.refused == 0) ≡ a → (b : Bool) → good ≡ b
        → (judged c item good (suc n) ≡ item) × (good ≡ true) × ((item.next.refused == 0) ≡ true)
    go true x true y = ((rw (x, y)), y, x)
    go true x false y = let z : suc n ≡ 0 = rw (x, y) at e in absurd (omega arith)
    go false x b y = let z : item.next.refused ≡ 0 = rw x at e in let w = eq-eqb _ _ z in let v : ◌≡◌ {A = ℕ} 0 1 = cc in absurd (omega arith)

judged_good : (c : Cursor) (item : Item ℕ) (n : ℕ) → (item.next.refused == 0) ≡ true → judged c item true n ≡ item
unfolding judged
judged_good c item n e = rw e

module _ (s : List ℕ) where
  index_free : (c : Cursor) (k k' : ℕ) → k ≤ k' → (read_index k s c).next.refused ≡ 0 → read_index k s c ≡ read_index k' s c
  unfolding read_index
  index_free c k k' h e =
      let j = judged_clean c (read_number s c) ((read_number s c).value <ᵇ k) 5 e in
      let g : (read_number s c).value < k' = omega (arith, ltb-true (read_number s c).value k j.1) in
      j.0 ∙ sym (rw (lt-ltb _ _ g) (judged_good c (read_number s c) 6 j.2))

  pub index_below : (c : Cursor) (k : ℕ) → (read_index k s c).next.refused ≡ 0 → (read_index k s c).value < k
  unfolding read_index
  index_below c k e =
      let j = judged_clean c (read_number s c) ((read_number s c).value <ᵇ k) 5 e in
      rw j.0 (ltb-true (read_number s c).value k j.1)

  pub sum_fits : (c : Cursor) (o : ℕ) → (read_sum o s c).next.refused ≡ 0 → o + (read_sum o s c).value ≤ largest32
  unfolding read_sum
  sum_fits c o e =
      let j = judged_clean c (read_number s c) (o + (read_number s c).value ≤ᵇ largest32) 6 e in
      rw j.0 (leb-true (o + (read_number s c).value) largest32 j.1)

  sum_free : (c : Cursor) (o : ℕ) → (read_sum o s c).next.refused ≡ 0 → read_sum o s c ≡ read_sum 0 s c
  unfolding read_sum
  sum_free c o e =
      let j = judged_clean c (read_number s c) (o + (read_number s c).value ≤ᵇ largest32) 6 e in
      let g : 0 + (read_number s c).value ≤ largest32 = omega (arith, leb-true (o + (read_number s c).value) largest32 j.1) in
      j.0 ∙ sym (rw (le-leb _ _ g) (judged_good c (read_number s c) 7 j.2))

  scaling_free : (c : Cursor) (o : ℕ) → (read_scaling o s c).next.refused ≡ 0 → read_scaling o s c ≡ read_scaling 0 s c
  unfolding read_scaling ◌▷◌ give
  scaling_free c o e = rw (sum_free c o (back (float_reader s) _ (back (float_reader s) _ (back (optional_reader s read_text (text_reader s)) _ e))))

  name_free : (c : Cursor) (b : Option Text) → (read_name b s c).next.refused ≡ 0 → read_name b s c ≡ read_name None s c
  unfolding read_name
  name_free c b e = go ((read_text s c).next.refused == 0) refl (rises s b (read_text s c).value) refl
    where
      go : (x : Bool) → ((read_text s c).next.refused == 0) ≡ x → (y : Bool) → rises s b (read_text s c).value ≡ y
          → read_name b s c ≡ read_name None s c
      go true x true y = rw (x, y)
      go true x false y = let w : ◌≡◌ {A = ℕ} 5 0 = rw (x, y) at e in absurd (omega arith)
      go false x y v = rw x

  pub lookup_free : (c : Cursor) (b : Option Text) → (read_lookup b s c).next.refused ≡ 0 → read_lookup b s c ≡ read_lookup None s c
  unfolding read_lookup ◌▷◌ give
  lookup_free c b e = rw (name_free c b (back (code_reader s 3) _ (back (number_reader s) _ (back (number_reader s) _ e))))

  pub field_free : (c : Cursor) (k total : ℕ) → k ≤ 4294967296 → (read_field k total s c).next.refused ≡ 0
      → read_field k total s c ≡ read_field 4294967296 0 s c
  unfolding read_field ◌▷◌ give
  field_free c k total h e =
      let n = (read_names s c).next in
      let sc = read_scaling total s (read_code 63 s (read_index k s n).next).next in
      let a : sc.next.refused ≡ 0 = back (authored_reader s) sc.next (back (links_reader s sc.value.bits) (read_authored s sc.next).next e) in
      let i : (read_index k s n).next.refused ≡ 0 = back (code_reader s 63) _ (back (scaling_reader s total) _ a) in
      let x : read_index k s n ≡ read_index 4294967296 s n = index_free n k 4294967296 h i in
      let y : read_scaling total s (read_code 63 s (read_index 4294967296 s n).next).next
      ≡ read_scaling 0 s (read_code 63 s (read_index 4294967296 s n).next).next = scaling_free _ total (rw x at a) in
      rw (x, y)

  pub field_fits : (c : Cursor) (k total : ℕ) → (read_field k total s c).next.refused ≡ 0 → total + (read_field k total s c).value.scaling.bits ≤ largest32
  unfolding read_field read_scaling ◌▷◌ give
  field_fits c k total e =
      let sc = read_scaling total s (read_code 63 s (read_index k s (read_names s c).next).next).next in
      let a : sc.next.refused ≡ 0 = back (authored_reader s) sc.next (back (links_reader s sc.value.bits) (read_authored s sc.next).next e) in
      sum_fits _ total (back (float_reader s) _ (back (float_reader s) _ (back (optional_reader s read_text (text_reader s)) _ a)))
