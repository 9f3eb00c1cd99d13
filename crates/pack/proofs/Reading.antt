-- Laws of readers: a refused cursor stays, reading stays within the bytes and never goes back, and it refuses by 1 to 8.
use Rattle.std.specs.Prelude.{◌==◌, if◌then◌else◌, Option, None, Some}
use Prim.Native.Nat.{ℕ, zero, suc, ◌+◌, ◌-◌, ◌*◌, ◌≤◌, ◌<◌}
use native.Mathlib.Omega.{arith}
use native.Mathlib.Decide.{ℕ_discrete}
use mathlib.Core.Path.{◌≡◌, refl, ap, ◌∙◌, sym}
use mathlib.Core.List.{List}
use mathlib.Core.Bool.{Bool, true, false}
use borrow.Author.Tests.{ne_eqb, eqb-false, ltb-true, leb-true}
use lib.ListN.{length}
use Rattle.pack.specs.Notation.{◌<ᵇ◌, ◌≤ᵇ◌}
use Rattle.pack.specs.Items.{Cursor, Item, Form, give, ◌▷◌, optional, refuse, moved, last_byte_at, shortest, decoded, capped, groups, largest32}
use Rattle.pack.specs.Items.{largest64, read_wide, read_number, judged, read_version, read_code, read_index, read_sum, read_bytes, read_text}
use Rattle.pack.specs.Items.{rises, read_name, read_float, read_mark}
use Rattle.pack.specs.Records.{read_type, read_first, read_kind_part, read_entry, read_lookup, read_repeating, read_pgn, read_names}
use Rattle.pack.specs.Records.{read_scaling, read_authored, read_reference, read_links, read_field}
use Rattle.pack.specs.Format.{iter, types, entries, LookupState, lookup_next, lookups, FieldState, field_next, fields, pgn_next, pgns}
use Rattle.pack.specs.declared.kinds.LookupKind.{LookupKind}
use Rattle.pack.specs.declared.kinds.LookupKind.TheVariants.{Pair, Triplet, Bit, Fieldtype}
use Rattle.pack.specs.declared.text.Text.{Text}

-- a step of a reading whose state holds a cursor
pub record Steps (s : List ℕ) {A : Type 0} (cur : A → Cursor) (f : A → A) : Type 0 where
  pub sticky : (a : A) → ((cur a).refused ≡ 0 → ⊥) → cur (f a) ≡ cur a
  pub within : (a : A) → (cur a).at ≤ length s → (cur (f a)).at ≤ length s
  pub grows : (a : A) → (cur a).at ≤ (cur (f a)).at
  pub numbered : (a : A) → (cur a).refused ≤ 8 → (cur (f a)).refused ≤ 8

-- a reader of one item or more
abbrev pub Reader : List ℕ → (Cursor → Cursor) → Type 0
Reader s f = Steps s (λ c. c) f

-- ---- steps repeated

module _ {s : List ℕ} {A : Type 0} {cur : A → Cursor} {f : A → A} (r : Steps s cur f) where
  -- what is not refused behind a step was not refused before it
  pub back : (a : A) → (cur (f a)).refused ≡ 0 → (cur a).refused ≡ 0
  back a e = go (ℕ_discrete (cur a).refused 0)
    where
      go : Dec ((cur a).refused ≡ 0) → (cur a).refused ≡ 0
      go (yes p) = p
      go (no n) = absurd (n (sym (ap (λ (d : Cursor). d.refused) (r.sticky a n)) ∙ e))

  pub often : (n : ℕ) → Steps s cur (λ a. iter f a n)
  often zero = record { sticky = λ a h. refl; within = λ a h. h; grows = λ a. omega arith; numbered = λ a h. h }
  often (suc n) =
      let i = often n in
      record {
        sticky = λ a h. r.sticky (iter f a n) (λ e. h (sym (ap (λ (d : Cursor). d.refused) (i.sticky a h)) ∙ e)) ∙ i.sticky a h;
        within = λ a h. r.within (iter f a n) (i.within a h);
        grows = λ a. omega (arith, i.grows a, r.grows (iter f a n));
        numbered = λ a h. r.numbered (iter f a n) (i.numbered a h);
      }

pub iter_add : {A : Type 0} (f : A → A) (a : A) (k j : ℕ) → iter f a (k + j) ≡ iter f (iter f a k) j
iter_add f a k zero = let e : k + 0 ≡ k = omega arith in rw e
iter_add f a k (suc j) = let e : k + suc j ≡ suc (k + j) = omega arith in rw e (ap f (iter_add f a k j))

module _ {s : List ℕ} {A : Type 0} {cur : A → Cursor} {f : A → A} (r : Steps s cur f) (a : A) (k n : ℕ) (h : k ≤ n) where
  -- from a refused state on, all have its cursor
  pub stays : ((cur (iter f a k)).refused ≡ 0 → ⊥) → cur (iter f a n) ≡ cur (iter f a k)
  stays b =
      let e : n ≡ k + (n - k) = omega arith in
      rw (e, iter_add f a k (n - k)) ((often r (n - k)).sticky (iter f a k) b)

  -- what is not refused at n was not at k
  pub clean : (cur (iter f a n)).refused ≡ 0 → (cur (iter f a k)).refused ≡ 0
  clean b =
      let e : n ≡ k + (n - k) = omega arith in
      back (often r (n - k)) (iter f a k) (rw (← iter_add f a k (n - k), ← e) b)

  pub later : (cur (iter f a k)).at ≤ (cur (iter f a n)).at
  later = let e : n ≡ k + (n - k) = omega arith in rw (e, iter_add f a k (n - k)) ((often r (n - k)).grows (iter f a k))

-- ---- readers one after the other

module _ {s : List ℕ} where
  pub followed : {f : Cursor → Cursor} {g : Cursor → Cursor → Cursor} → Reader s f → ((c : Cursor) → Reader s (g c)) → Reader s (λ c. g c (f c))
  followed {f} {g} p q =
      record {
        sticky = λ c h. ap (g c) (p.sticky c h) ∙ (q c).sticky c h;
        within = λ c h. (q c).within (f c) (p.within c h);
        grows = λ c. omega (arith, p.grows c, (q c).grows (f c));
        numbered = λ c h. (q c).numbered (f c) (p.numbered c h);
      }

  -- one of two, as a test on the cursor says
  pub choose : (b : Cursor → Bool) (f g h : Cursor → Cursor) → ((c : Cursor) → b c ≡ true → h c ≡ f c) → ((c : Cursor) → b c ≡ false → h c ≡ g c)
      → Reader s f → Reader s g → Reader s h
  choose b f g h t e p q =
      record { sticky = λ c n. st c n (b c) refl; within = λ c l. wi c l (b c) refl; grows = λ c. gr c (b c) refl; numbered = λ c l. nu c l (b c) refl }
    where
      st : (c : Cursor) → (c.refused ≡ 0 → ⊥) → (v : Bool) → b c ≡ v → h c ≡ c
      st c n true d = t c d ∙ p.sticky c n
      st c n false d = e c d ∙ q.sticky c n

      wi : (c : Cursor) → c.at ≤ length s → (v : Bool) → b c ≡ v → (h c).at ≤ length s
      wi c l true d = rw (t c d) (p.within c l)
      wi c l false d = rw (e c d) (q.within c l)

      gr : (c : Cursor) → (v : Bool) → b c ≡ v → c.at ≤ (h c).at
      gr c true d = rw (t c d) (p.grows c)
      gr c false d = rw (e c d) (q.grows c)

      nu : (c : Cursor) → c.refused ≤ 8 → (v : Bool) → b c ≡ v → (h c).refused ≤ 8
      nu c l true d = rw (t c d) (p.numbered c l)
      nu c l false d = rw (e c d) (q.numbered c l)

  pub stay : Reader s (λ c. c)
  stay = record { sticky = λ c h. refl; within = λ c h. h; grows = λ c. omega arith; numbered = λ c h. h }

-- ---- the items

pub if_all : {A : Type 0} (P : A → Type 0) (b : Bool) (x y : A) → (b ≡ true → P x) → (b ≡ false → P y) → P (if b then x else y)
if_all P true x y f g = f refl
if_all P false x y f g = g refl

-- reading that is not refused goes on by a byte at least
abbrev pub Moves : (Cursor → Cursor) → Type 0
Moves f = (c : Cursor) → (f c).refused ≡ 0 → c.at + 1 ≤ (f c).at

module _ {s : List ℕ} where
  pub moves_then : {f : Cursor → Cursor} {g : Cursor → Cursor → Cursor} → Moves f → ((c : Cursor) → Reader s (g c)) → Moves (λ c. g c (f c))
  moves_then {f} {g} p q c e = omega (arith, p c (back (q c) (f c) e), (q c).grows (f c))

  pub after_moves : {f : Cursor → Cursor} {g : Cursor → Cursor → Cursor} → Reader s f → ((c : Cursor) → Moves (g c)) → Moves (λ c. g c (f c))
  after_moves {f} {g} p q c e = omega (arith, p.grows c, q c (f c) e)

decoded_all : (P : Item ℕ → Type 0) (c : Cursor) (e : ℕ) (o : Option ℕ) → P (record { value = 0; next = refuse c 2 })
    → ((v : ℕ) → P (record { value = v; next = moved c e })) → P (decoded c e o)
decoded_all P c e None a b = a
decoded_all P c e (Some v) a b = b v

module _ (s : List ℕ) where
  -- the ends of a number: left as it was, cut short, refused by 2, read
  wide_all : (most : ℕ) (P : (Item ℕ) → Type 0) (c : Cursor) → ((c.refused == 0) ≡ false → P (record { value = 0; next = c }))
      → P (record { value = 0; next = refuse c 1 })
      → P (record { value = 0; next = refuse c 2 }) →
      ((v : ℕ) → last_byte_at s c.at < length s → P (record { value = v; next = moved c (last_byte_at s c.at + 1) }))
      → P (read_wide most s c)
  unfolding read_wide
  wide_all most P c a b d e =
      let l = last_byte_at s c.at in
      if_all P (c.refused == 0) _ _
      (λ _. if_all P (l <ᵇ length s) _ _
      (λ h. if_all P (shortest s c.at l) _ _
      (λ _. decoded_all P c (l + 1) (capped most (groups s (l + 1) (l + 1 - c.at))) d (λ v. e v (ltb-true _ _ h)))
      (λ _. d))
      (λ _. b))
      a

  pub wide_reader : (most : ℕ) → Reader s (λ c. (read_wide most s c).next)
  unfolding read_wide
  wide_reader most =
      record {
        sticky = λ c h. stick c h;
        within = λ c h. wide_all most (λ w. w.next.at ≤ length s) c (λ _. h) h h (λ v l. omega arith);
        grows = λ c. wide_all most (λ w. c.at ≤ w.next.at) c (λ _. omega arith) (omega arith) (omega arith) (λ v l. omega arith);
        numbered = λ c h. wide_all most (λ w. w.next.refused ≤ 8) c (λ _. h) (omega arith) (omega arith) (λ v l. h);
      }
    where
      stick : (c : Cursor) → (c.refused ≡ 0 → ⊥) → (read_wide most s c).next ≡ c
      stick c h = rw (ne_eqb _ _ h)

  pub wide_moves : (most : ℕ) → Moves (λ c. (read_wide most s c).next)
  wide_moves most c e =
      wide_all most (λ w. w.next.refused ≡ 0 → c.at + 1 ≤ w.next.at) c (λ h z. absurd (eqb-false _ _ h z)) (λ z. absurd (omega arith))
      (λ z. absurd (omega arith)) (λ v l z. omega arith) e

  pub number_reader : Reader s (λ c. (read_number s c).next)
  unfolding read_number
  number_reader = wide_reader largest32

  pub number_moves : Moves (λ c. (read_number s c).next)
  unfolding read_number
  number_moves = wide_moves largest32

  judged_reader : (good : Cursor → Bool) (n : ℕ) → n ≤ 8 → Reader s (λ c. (judged c (read_number s c) (good c) n).next)
  unfolding judged
  judged_reader good n l =
      record {
        sticky = λ c h. stick c h;
        within =
            λ c h.
            if_all (λ (w : Item ℕ). w.next.at ≤ length s) ((read_number s c).next.refused == 0) _ _
            (λ _. if_all (λ (w : Item ℕ). w.next.at ≤ length s) (good c) _ _ (λ _. number_reader.within c h) (λ _. h))
            (λ _. number_reader.within c h);
        grows =
            λ c.
            if_all (λ (w : Item ℕ). c.at ≤ w.next.at) ((read_number s c).next.refused == 0) _ _
            (λ _. if_all (λ (w : Item ℕ). c.at ≤ w.next.at) (good c) _ _ (λ _. number_reader.grows c) (λ _. omega arith))
            (λ _. number_reader.grows c);
        numbered =
            λ c h.
            if_all (λ (w : Item ℕ). w.next.refused ≤ 8) ((read_number s c).next.refused == 0) _ _
            (λ _. if_all (λ (w : Item ℕ). w.next.refused ≤ 8) (good c) _ _ (λ _. number_reader.numbered c h) (λ _. l))
            (λ _. number_reader.numbered c h);
      }
    where
      stick : (c : Cursor) → (c.refused ≡ 0 → ⊥) → (judged c (read_number s c) (good c) n).next ≡ c
      stick c h = let e = number_reader.sticky c h in rw (e, ne_eqb _ _ h)

  judged_moves : (good : Cursor → Bool) (n : ℕ) → Moves (λ c. (judged c (read_number s c) (good c) (suc n)).next)
  unfolding judged
  judged_moves good n c =
      if_all (λ (w : Item ℕ). w.next.refused ≡ 0 → c.at + 1 ≤ w.next.at) ((read_number s c).next.refused == 0) _ _
      (λ _. if_all (λ (w : Item ℕ). w.next.refused ≡ 0 → c.at + 1 ≤ w.next.at) (good c) _ _ (λ _. number_moves c) (λ _ z. absurd (omega arith)))
      (λ _. number_moves c)

  pub version_reader : Reader s (λ c. (read_version s c).next)
  unfolding read_version
  version_reader = judged_reader (λ c. (read_number s c).value == 1) 3 (omega arith)

  pub code_reader : (most : ℕ) → Reader s (λ c. (read_code most s c).next)
  unfolding read_code
  code_reader most = judged_reader (λ c. (read_number s c).value ≤ᵇ most) 4 (omega arith)

  pub index_reader : (k : ℕ) → Reader s (λ c. (read_index k s c).next)
  unfolding read_index
  index_reader k = judged_reader (λ c. (read_number s c).value <ᵇ k) 6 (omega arith)

  pub sum_reader : (o : ℕ) → Reader s (λ c. (read_sum o s c).next)
  unfolding read_sum
  sum_reader o = judged_reader (λ c. o + (read_number s c).value ≤ᵇ largest32) 7 (omega arith)

  pub bytes_reader : Reader s (λ c. (read_bytes s c).next)
  unfolding read_bytes
  bytes_reader = judged_reader (λ c. (read_number s c).value * 8 ≤ᵇ largest32) 7 (omega arith)

  pub mark_reader : Reader s (λ c. (read_mark s c).next)
  unfolding read_mark ◌▷◌ give
  mark_reader = code_reader 1

  -- the ends of a text: its length refused, cut short, read
  text_all : (P : (Item Text) → Type 0) (c : Cursor)
      → (((read_number s c).next.refused == 0) ≡ false → P (record { value = record { start = 0; len = 0 }; next = (read_number s c).next }))
      → P (record { value = record { start = 0; len = 0 }; next = refuse c 1 })
      → ((v : Text) (e : ℕ) → (read_number s c).next.at ≤ e → e ≤ length s → P (record { value = v; next = moved (read_number s c).next e }))
      → P (read_text s c)
  unfolding read_text
  text_all P c a b d =
      let n = read_number s c in
      if_all P (n.next.refused == 0) _ _ (λ _. if_all P (n.next.at + n.value ≤ᵇ length s) _ _ (λ h. d _ _ (omega arith) (leb-true _ _ h)) (λ _. b)) a

  pub text_reader : Reader s (λ c. (read_text s c).next)
  unfolding read_text
  text_reader =
      record {
        sticky = λ c h. stick c h;
        within = λ c h. text_all (λ w. w.next.at ≤ length s) c (λ _. number_reader.within c h) h (λ v e k l. l);
        grows = λ c. text_all (λ w. c.at ≤ w.next.at) c (λ _. number_reader.grows c) (omega arith) (λ v e k l. omega (arith, number_reader.grows c));
        numbered = λ c h. text_all (λ w. w.next.refused ≤ 8) c (λ _. number_reader.numbered c h) (omega arith) (λ v e k l. number_reader.numbered c h);
      }
    where
      stick : (c : Cursor) → (c.refused ≡ 0 → ⊥) → (read_text s c).next ≡ c
      stick c h = let e = number_reader.sticky c h in rw (e, ne_eqb _ _ h)

  pub text_moves : Moves (λ c. (read_text s c).next)
  text_moves c =
      text_all (λ w. w.next.refused ≡ 0 → c.at + 1 ≤ w.next.at) c (λ h z. absurd (eqb-false _ _ h z)) (λ z. absurd (omega arith))
      (λ v e k l z. omega (arith, number_moves c z))

  name_all : (before : Option Text) (P : (Item Text) → Type 0) (c : Cursor) → P (read_text s c)
      → P (record { value = record { start = 0; len = 0 }; next = refuse c 5 }) → P (read_name before s c)
  unfolding read_name
  name_all before P c a b =
      let t = read_text s c in
      if_all P (t.next.refused == 0) _ _
      (λ _. if_all P (rises s before t.value) _ _ (λ _. a) (λ _. b))
      (λ _. a)

  pub name_reader : (before : Option Text) → Reader s (λ c. (read_name before s c).next)
  unfolding read_name
  name_reader before =
      record {
        sticky = λ c h. stick c h;
        within = λ c h. name_all before (λ w. w.next.at ≤ length s) c (text_reader.within c h) h;
        grows = λ c. name_all before (λ w. c.at ≤ w.next.at) c (text_reader.grows c) (omega arith);
        numbered = λ c h. name_all before (λ w. w.next.refused ≤ 8) c (text_reader.numbered c h) (omega arith);
      }
    where
      stick : (c : Cursor) → (c.refused ≡ 0 → ⊥) → (read_name before s c).next ≡ c
      stick c h = let e = text_reader.sticky c h in rw (e, ne_eqb _ _ h)

  pub name_moves : (before : Option Text) → Moves (λ c. (read_name before s c).next)
  name_moves before c = name_all before (λ w. w.next.refused ≡ 0 → c.at + 1 ≤ w.next.at) c (text_moves c) (λ z. absurd (omega arith))

  pub float_reader : Reader s (λ c. (read_float s c).next)
  unfolding read_float
  float_reader =
      record {
        sticky = λ c h. stick c h;
        within =
            λ c h.
            if_all (λ (w : Item ℕ). w.next.at ≤ length s) (c.refused == 0) _ _
            (λ _. if_all (λ (w : Item ℕ). w.next.at ≤ length s) (c.at + 8 ≤ᵇ length s) _ _ (λ l. leb-true _ _ l) (λ _. h))
            (λ _. h);
        grows =
            λ c.
            if_all (λ (w : Item ℕ). c.at ≤ w.next.at) (c.refused == 0) _ _
            (λ _. if_all (λ (w : Item ℕ). c.at ≤ w.next.at) (c.at + 8 ≤ᵇ length s) _ _ (λ l. omega arith) (λ _. omega arith))
            (λ _. omega arith);
        numbered =
            λ c h.
            if_all (λ (w : Item ℕ). w.next.refused ≤ 8) (c.refused == 0) _ _
            (λ _. if_all (λ (w : Item ℕ). w.next.refused ≤ 8) (c.at + 8 ≤ᵇ length s) _ _ (λ l. h) (λ _. omega arith))
            (λ _. h);
      }
    where
      stick : (c : Cursor) → (c.refused ≡ 0 → ⊥) → (read_float s c).next ≡ c
      stick c h = rw (ne_eqb _ _ h)

  -- an optional item: a mark, and then the item or nothing
  optionally : {f g : Cursor → Cursor} → Reader s f → ((c : Cursor) → (read_mark s c).value ≡ true → g c ≡ f (read_mark s c).next)
      → ((c : Cursor) → (read_mark s c).value ≡ false → g c ≡ (read_mark s c).next) → Reader s g
  optionally {f} {g} p t e = choose (λ c. (read_mark s c).value) (λ c. f (read_mark s c).next) (λ c. (read_mark s c).next) g t e
      (followed mark_reader (λ c. p)) mark_reader

  pub optional_reader : {A : Type 0} (p : Form A) → Reader s (λ c. (p s c).next) → Reader s (λ c. (optional p s c).next)
  unfolding optional ◌▷◌ give
  optional_reader p r = optionally r (λ c e. rw e) (λ c e. rw e)

  -- ---- the records

  infixl 20 ◌▸◌
  ◌▸◌ : {f g : Cursor → Cursor} → Reader s f → Reader s g → Reader s (λ c. g (f c))
  p ▸ q = followed p (λ c. q)

  pub type_reader : Reader s (λ c. (read_type s c).next)
  unfolding read_type ◌▷◌ give
  type_reader = text_reader ▸ code_reader 7 ▸ number_reader ▸ float_reader ▸ text_reader

  pub type_moves : Moves (λ c. (read_type s c).next)
  unfolding read_type ◌▷◌ give
  type_moves = moves_then text_moves (λ c. code_reader 7 ▸ number_reader ▸ float_reader ▸ text_reader)

  first_reader : (kind : LookupKind) → Reader s (λ c. (read_first kind s c).next)
  unfolding read_first ◌▷◌ give
  first_reader Triplet = wide_reader largest64
  first_reader Pair = stay
  first_reader Bit = stay
  first_reader Fieldtype = stay

  pub kind_part_reader : (kind : LookupKind) → Reader s (λ c. (read_kind_part kind s c).next)
  unfolding read_kind_part ◌▷◌ give
  kind_part_reader Fieldtype = text_reader ▸ optional_reader read_text text_reader
  kind_part_reader Pair = stay
  kind_part_reader Triplet = stay
  kind_part_reader Bit = stay

  pub entry_reader : (kind : LookupKind) → Reader s (λ c. (read_entry kind s c).next)
  unfolding read_entry ◌▷◌ give
  entry_reader kind = first_reader kind ▸ wide_reader largest64 ▸ text_reader ▸ kind_part_reader kind

  pub entry_moves : (kind : LookupKind) → Moves (λ c. (read_entry kind s c).next)
  unfolding read_entry ◌▷◌ give
  entry_moves kind = after_moves (first_reader kind) (λ c. moves_then (wide_moves largest64) (λ c. text_reader ▸ kind_part_reader kind))

  pub lookup_reader : (before : Option Text) → Reader s (λ c. (read_lookup before s c).next)
  unfolding read_lookup ◌▷◌ give
  lookup_reader before = name_reader before ▸ code_reader 3 ▸ number_reader ▸ number_reader

  pub lookup_moves : (before : Option Text) → Moves (λ c. (read_lookup before s c).next)
  unfolding read_lookup ◌▷◌ give
  lookup_moves before = moves_then (name_moves before) (λ c. code_reader 3 ▸ number_reader ▸ number_reader)

  pub repeating_reader : Reader s (λ c. (read_repeating s c).next)
  unfolding read_repeating ◌▷◌ give
  repeating_reader = followed number_reader (λ c. sum_reader (read_number s c).value) ▸ optional_reader read_number number_reader ▸ mark_reader

  pub pgn_reader : Reader s (λ c. (read_pgn s c).next)
  unfolding read_pgn ◌▷◌ give
  pgn_reader = number_reader ▸ text_reader ▸ code_reader 3 ▸ code_reader 7 ▸ number_reader ▸ optional_reader read_bytes bytes_reader
      ▸ optional_reader read_repeating repeating_reader
      ▸ optional_reader read_repeating repeating_reader ▸ number_reader

  pub pgn_moves : Moves (λ c. (read_pgn s c).next)
  unfolding read_pgn ◌▷◌ give
  pgn_moves = moves_then number_moves
      (λ c. text_reader ▸ code_reader 3 ▸ code_reader 7 ▸ number_reader ▸ optional_reader read_bytes bytes_reader
      ▸ optional_reader read_repeating repeating_reader ▸ optional_reader read_repeating repeating_reader ▸ number_reader)

  pub names_reader : Reader s (λ c. (read_names s c).next)
  unfolding read_names ◌▷◌ give
  names_reader = text_reader ▸ text_reader ▸ text_reader

  names_moves : Moves (λ c. (read_names s c).next)
  unfolding read_names ◌▷◌ give
  names_moves = moves_then text_moves (λ c. text_reader ▸ text_reader)

  pub scaling_reader : (total : ℕ) → Reader s (λ c. (read_scaling total s c).next)
  unfolding read_scaling ◌▷◌ give
  scaling_reader total = sum_reader total ▸ float_reader ▸ float_reader ▸ optional_reader read_text text_reader

  pub authored_reader : Reader s (λ c. (read_authored s c).next)
  unfolding read_authored ◌▷◌ give
  authored_reader = optional_reader read_float float_reader ▸ optional_reader read_float float_reader ▸ optional_reader read_number number_reader
      ▸ optional_reader read_text text_reader ▸ optional_reader read_text text_reader

  pub reference_reader : Reader s (λ c. (read_reference s c).next)
  unfolding read_reference ◌▷◌ give
  reference_reader = code_reader 3 ▸ text_reader

  pub links_reader : (bits : ℕ) → Reader s (λ c. (read_links bits s c).next)
  unfolding read_links ◌▷◌ give
  links_reader bits = optional_reader read_reference reference_reader ▸ optional_reader read_number number_reader
      ▸ optional_reader read_text text_reader ▸ optional_reader read_text text_reader ▸ optional_reader (read_sum bits) (sum_reader bits)

  -- what follows a field's names
  abbrev field_rest : ℕ → ℕ → Cursor → Cursor
  field_rest k total c =
      let scaling = read_scaling total s (read_code 63 s (read_index k s c).next).next in (read_links scaling.value.bits s
      (read_authored s scaling.next).next).next

  field_rest_reader : (k total : ℕ) → Reader s (field_rest k total)
  field_rest_reader k total =
      followed (index_reader k ▸ code_reader 63 ▸ scaling_reader total ▸ authored_reader)
      (λ c. links_reader (read_scaling total s (read_code 63 s (read_index k s c).next).next).value.bits)

  pub field_reader : (k total : ℕ) → Reader s (λ c. (read_field k total s c).next)
  unfolding read_field ◌▷◌ give
  field_reader k total = names_reader ▸ field_rest_reader k total

  pub field_moves : (k total : ℕ) → Moves (λ c. (read_field k total s c).next)
  unfolding read_field ◌▷◌ give
  field_moves k total = moves_then names_moves (λ c. field_rest_reader k total)

  -- ---- the lists

  pub types_reader : (n : ℕ) → Reader s (λ c. types s c n)
  unfolding types
  types_reader n = often type_reader n

  pub entries_reader : (kind : LookupKind) (n : ℕ) → Reader s (λ c. entries kind s c n)
  unfolding entries
  entries_reader kind n = often (entry_reader kind) n

  pub lookup_next_reader : (before : Option Text) → Reader s (λ c. (lookup_next s (record { next = c; before = before })).next)
  unfolding lookup_next
  lookup_next_reader before =
      followed (lookup_reader before) (λ c. entries_reader (read_lookup before s c).value.kind (read_lookup before s c).value.entries)

  pub lookup_steps : Steps s (λ (a : LookupState). a.next) (lookup_next s)
  lookup_steps =
      record {
        sticky = λ a. (lookup_next_reader a.before).sticky a.next;
        within = λ a. (lookup_next_reader a.before).within a.next;
        grows = λ a. (lookup_next_reader a.before).grows a.next;
        numbered = λ a. (lookup_next_reader a.before).numbered a.next;
      }

  pub lookups_reader : (n : ℕ) → Reader s (λ c. (lookups s c n).next)
  unfolding lookups
  lookups_reader n =
      let r = often lookup_steps n in
      record {
        sticky = λ c. r.sticky (record { next = c; before = None });
        within = λ c. r.within (record { next = c; before = None });
        grows = λ c. r.grows (record { next = c; before = None });
        numbered = λ c. r.numbered (record { next = c; before = None });
      }

  pub field_steps : (k : ℕ) → Steps s (λ (a : FieldState). a.next) (field_next k s)
  unfolding field_next
  field_steps k =
      record {
        sticky = λ a. (field_reader k a.total).sticky a.next;
        within = λ a. (field_reader k a.total).within a.next;
        grows = λ a. (field_reader k a.total).grows a.next;
        numbered = λ a. (field_reader k a.total).numbered a.next;
      }

  pub fields_reader : (k n : ℕ) → Reader s (λ c. (fields k s c n).next)
  unfolding fields
  fields_reader k n =
      let r = often (field_steps k) n in
      record {
        sticky = λ c. r.sticky (record { next = c; total = 0 });
        within = λ c. r.within (record { next = c; total = 0 });
        grows = λ c. r.grows (record { next = c; total = 0 });
        numbered = λ c. r.numbered (record { next = c; total = 0 });
      }

  pub pgn_next_reader : (k : ℕ) → Reader s (pgn_next k s)
  unfolding pgn_next
  pgn_next_reader k = followed pgn_reader (λ c. fields_reader k (read_pgn s c).value.fields)

  pub pgns_reader : (k n : ℕ) → Reader s (λ c. pgns k s c n)
  unfolding pgns
  pgns_reader k n = often (pgn_next_reader k) n

-- ---- a number fits its width

capped_fits : (most n : ℕ) (c : Cursor) (e : ℕ) → (decoded c e (capped most n)).value ≤ most
unfolding capped
capped_fits most n c e = if_all (λ (o : Option ℕ). (decoded c e o).value ≤ most) (n ≤ᵇ most) _ _ (λ h. leb-true _ _ h) (λ _. omega arith)

pub wide_fits : (most : ℕ) (s : List ℕ) (c : Cursor) → (read_wide most s c).value ≤ most
unfolding read_wide
wide_fits most s c =
    let P : Item ℕ → Type 0 = λ w. w.value ≤ most in
    let l = last_byte_at s c.at in
    if_all P (c.refused == 0) _ _
    (λ _. if_all P (l <ᵇ length s) _ _
    (λ _. if_all P (shortest s c.at l) _ _ (λ _. capped_fits most (groups s (l + 1) (l + 1 - c.at)) c (l + 1)) (λ _. omega arith))
    (λ _. omega arith))
    (λ _. omega arith)

pub number_fits : (s : List ℕ) (c : Cursor) → (read_number s c).value ≤ largest32
unfolding read_number
number_fits s c = wide_fits largest32 s c
