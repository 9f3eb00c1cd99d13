-- The items of a pack and how they are read, as document 01's "The pack" and "Refused for the input" have them.
-- A reading answers an item and the cursor behind it. A refused cursor stands at the offending item: each further reading answers an empty item
-- and the same cursor, so "the first offending item decides".
use Rattle.std.specs.Prelude.{ℕ, zero, suc, ◌+◌, ◌-◌, ◌*◌, ◌%◌, ◌^◌, List, [], ◌∷◌}
use Rattle.std.specs.Prelude.{Bool, true, false, not, ◌&&◌, length, get_or, drop, take, ◌==◌, if◌then◌else◌}
use Rattle.std.specs.Prelude.{Option, None, Some}
use Rattle.pack.specs.Notation.{◌<ᵇ◌, ◌≤ᵇ◌}
use Rattle.pack.specs.declared.text.Text.{Text}
use Rattle.pack.specs.declared.cursor.Cursor as cursors
use Rattle.pack.specs.declared.cursor.Item as items

infix 50 ◌≺◌
infixr 20 ◌▷◌
-- ---- the cursor: the code's records, by names of their own, since another crate cannot name what `pub use` hands on of `declared`

-- an offset; and 01's number of the refusal there, 0 where there is none
abbrev pub Cursor : Type 0
Cursor = cursors.Cursor

-- an item, and the cursor behind it
abbrev pub Item : Type 0 → Type 0
Item A = items.Item A

-- from the bytes of a pack and a cursor
abbrev pub Form : Type 0 → Type 0
Form A = List ℕ → Cursor → Item A

-- nothing is read
unfoldable pub give : {A : Type 0} → A → Form A
give v s c = record { value = v; next = c }

-- one item, and then what follows such an item
unfoldable pub ◌▷◌ : {A B : Type 0} → Form A → (A → Form B) → Form B
(p ▷ q) s c = q (p s c).value s (p s c).next

-- a cursor at an offset, with nothing refused
abbrev pub fresh : ℕ → Cursor
fresh at = record { at = at; refused = 0 }

-- "the detail is the byte offset at which the offending item (a number, text, 8-byte float) begins": the cursor stays where it began
abbrev pub refuse : Cursor → ℕ → Cursor
refuse c n = record { at = c.at; refused = n }

abbrev pub moved : Cursor → ℕ → Cursor
moved c e = record { at = e; refused = c.refused }

-- ---- numbers

-- "top bit set on all but the last byte": how many bytes with the top bit stand at the front
abbrev pub run : List ℕ → ℕ
run [] = 0
run (b ∷ bs) = if b <ᵇ 128 then 0 else suc (run bs)

-- where the number that begins at `at` has its last byte; the length or more where it has none
abbrev pub last_byte_at : List ℕ → ℕ → ℕ
last_byte_at s at = at + run (drop at s)

-- "groups of seven bits, lowest group first": the value of the n groups before e
abbrev pub groups : List ℕ → ℕ → ℕ → ℕ
groups s e zero = 0
groups s e (suc n) = get_or s (e - suc n) 0 % 128 + 128 * groups s e n

-- "Shortest form: no last group of zero, except the number 0 itself"
unfoldable pub shortest : List ℕ → ℕ → ℕ → Bool
shortest s at e = not ((at <ᵇ e) && (get_or s e 0 == 0))

-- "too large for its width"
unfoldable pub capped : ℕ → ℕ → Option ℕ
capped most n = if n ≤ᵇ most then Some n else None

-- a number that was decoded up to the offset e, or refused at c
abbrev pub decoded : Cursor → (e : ℕ) → Option ℕ → Item ℕ
decoded c e None = record { value = 0; next = refuse c 2 }
decoded c e (Some v) = record { value = v; next = moved c e }

-- 1: "bytes end inside an item or before the next one"; 2: "a number not in shortest form, or too large for its width"
unfoldable pub read_wide : ℕ → Form ℕ
read_wide most s c =
    let e = last_byte_at s c.at in
    if c.refused == 0
    then if e <ᵇ length s
    then if shortest s c.at e
    then decoded c (e + 1) (capped most (groups s (e + 1) (e + 1 - c.at)))
    else record { value = 0; next = refuse c 2 }
    else record { value = 0; next = refuse c 1 }
    else record { value = 0; next = c }

-- "Width is u32; lookup values are u64."
abbrev pub largest32 : ℕ
largest32 = 4294967295

abbrev pub largest64 : ℕ
largest64 = 18446744073709551615

unfoldable pub read_number : Form ℕ
read_number = read_wide largest32

-- an item that was read, judged by a further point: refused by that number where it is not good
unfoldable pub judged : Cursor → Item ℕ → Bool → ℕ → Item ℕ
judged c item good n =
    if item.next.refused == 0
    then if good then item else record { value = 0; next = refuse c n }
    else record { value = 0; next = item.next }

-- 3: "pack version other than 1"
unfoldable pub read_version : Form ℕ
read_version s c = let n = read_number s c in judged c n (n.value == 1) 3

-- 4: "a code, mark or flag outside its values", which are 0 to `most`
unfoldable pub read_code : ℕ → Form ℕ
read_code most s c = let n = read_number s c in judged c n (n.value ≤ᵇ most) 4

-- 6: "a field's field type index not below the number of field types"
unfoldable pub read_index : ℕ → Form ℕ
read_index count s c = let n = read_number s c in judged c n (n.value <ᵇ count) 6

-- 7: "a sum above 4,294,967,295", at "the item that completes the sum"
unfoldable pub read_sum : ℕ → Form ℕ
read_sum other s c = let n = read_number s c in judged c n (other + n.value ≤ᵇ largest32) 7

-- 7 for "minimum length × 8"
unfoldable pub read_bytes : Form ℕ
read_bytes s c = let n = read_number s c in judged c n (n.value * 8 ≤ᵇ largest32) 7

-- ---- texts and floats

-- "A text is a length and bytes", "one item with its length, which is judged before its bytes"
unfoldable pub read_text : Form Text
read_text s c =
    let n = read_number s c in
    let e = n.next.at + n.value in
    if n.next.refused == 0
    then if e ≤ᵇ length s
    then record { value = record { start = n.next.at; len = n.value }; next = moved n.next e }
    else record { value = record { start = 0; len = 0 }; next = refuse c 1 }
    else record { value = record { start = 0; len = 0 }; next = n.next }

-- the bytes of a text
abbrev pub bytes_of : List ℕ → Text → List ℕ
bytes_of s t = take t.len (drop t.start s)

-- "byte order": by the first byte that differs, a shorter prefix before a longer text
abbrev pub ◌≺◌ : List ℕ → List ℕ → Bool
[] ≺ [] = false
[] ≺ (b ∷ bs) = true
(a ∷ as') ≺ [] = false
(a ∷ as') ≺ (b ∷ bs) = if a <ᵇ b then true else (if b <ᵇ a then false else as' ≺ bs)

-- 5: "a lookup's name not above the previous one (byte order)"; the first has no previous one
abbrev pub rises : List ℕ → Option Text → Text → Bool
rises s None t = true
rises s (Some before) t = bytes_of s before ≺ bytes_of s t

unfoldable pub read_name : Option Text → Form Text
read_name before s c =
    let t = read_text s c in
    if t.next.refused == 0
    then if rises s before t.value
    then t
    else record { value = record { start = 0; len = 0 }; next = refuse c 5 }
    else t

-- "A float is 8 bytes of an f64, lowest first": its 64-bit pattern
abbrev pub four : List ℕ → ℕ → ℕ
four s at = get_or s at 0 + 256 * (get_or s (at + 1) 0 + 256 * (get_or s (at + 2) 0 + 256 * get_or s (at + 3) 0))

unfoldable pub read_float : Form ℕ
read_float s c =
    if c.refused == 0
    then if c.at + 8 ≤ᵇ length s
    then record { value = four s c.at + 2 ^ 32 * four s (c.at + 4); next = moved c (c.at + 8) }
    else record { value = 0; next = refuse c 1 }
    else record { value = 0; next = c }

-- ---- optional items: "a mark, 0 or 1, then the item if 1"

unfoldable pub read_mark : Form Bool
read_mark = read_code 1 ▷ λ n. give (n == 1)

unfoldable pub optional : {A : Type 0} → Form A → Form (Option A)
optional p = read_mark ▷ λ given. if given then (p ▷ λ v. give (Some v)) else give None

-- ---- the end

-- 8: "bytes after the last tree"
unfoldable pub finish : List ℕ → Cursor → Cursor
finish s c = if c.refused == 0 then if c.at <ᵇ length s then refuse c 8 else c else c
