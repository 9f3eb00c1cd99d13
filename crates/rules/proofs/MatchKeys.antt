-- The stream of a key of matches: what a step takes off it, and the keys that two streams compare.
use Rattle.std.specs.Prelude.{is_some}
use Rattle.std.specs.Prelude.{if◌then◌else◌}
use Prim.Native.Nat.{ℕ, zero, suc, ◌+◌, ◌-◌, ◌≤◌, ◌<◌}
use native.Mathlib.Decide.{dec_lt}
use native.Mathlib.Numerals.{add-one}
use native.Mathlib.Omega.{arith}
use mathlib.Core.Path.{◌≡◌, refl, sym, ap, ◌∙◌}
use mathlib.Core.Bool.{Bool, true, false, ◌||◌, false≢true}
use mathlib.Core.List.{List, [], ◌∷◌, ◌++◌, append-nil, append_assoc}
use Rattle.std.specs.Prelude.{Option, None, Some}
use lib.ListN.{length, get_or, take, drop, drop_of_length-le}
use lib.Seq.{drop-cons}
use Rattle.pack.specs.Notation.{◌≐◌, concat_below}
use Rattle.pack.specs.Value.{Bytes, Pgn, field_at}
use Rattle.pack.specs.Items.{bytes_of}
use Rattle.pack.specs.declared.text.Text.{Text}
use Rattle.rules.specs.declared.match_keys.MatchKey.{MatchKey}
use Rattle.rules.specs.declared.match_keys.KeyByte.{KeyByte}
use Rattle.rules.specs.Digits.{digits}
use Rattle.rules.specs.MatchKeys.{piece, pieces_from, to_come, first_and, Begun}
use Rattle.rules.specs.Texts.{bytes}
use Rattle.rules.specs.Variants.{has_match, match_key_at, match_key}

-- ---- the pieces

pub pieces_next : (p : Pgn) (k n : ℕ) → k < n → pieces_from p k (n - k) ≡ piece k (field_at p k).match ++ pieces_from p (k + 1) (n - (k + 1))
pieces_next p k n h = let e : n - k ≡ suc (n - (k + 1)) = omega arith in rw (e, add-one k)

pieces_last : (p : Pgn) (k many : ℕ) → pieces_from p k (suc many) ≡ pieces_from p k many ++ piece (k + many) (field_at p (k + many)).match
pieces_last p k zero = let e : k + 0 ≡ k = omega arith in rw e (append-nil (piece k (field_at p k).match))
pieces_last p k (suc many) =
    let e : k + suc many ≡ suc k + many = omega arith in
    rw (pieces_last p (suc k) many, e)
    (sym (append_assoc (piece k (field_at p k).match) (pieces_from p (suc k) many) (piece (suc k + many) (field_at p (suc k + many)).match)))

all_pieces : (p : Pgn) (n : ℕ) → pieces_from p 0 n ≡ concat_below (λ k. piece k (field_at p k).match) n
all_pieces p zero = refl
all_pieces p (suc n) =
    let e : 0 + n ≡ n = omega arith in
    pieces_last p 0 n ∙ (rw (e, all_pieces p n))

-- ---- the key behind its first `,`

key_turn : (p : Pgn) (n : ℕ) (b : Bool) (m : Option Bytes) (P K : Bytes) → has_match p n ≡ b → P ≡ (if b then 44 ∷ K else []) → (b ≡ false → K ≡ [])
    → (P ++ piece n m ≡ (if b || is_some m then 44 ∷ (K ++ match_key_at p n m) else [])) × ((b || is_some m) ≡ false → K ++ match_key_at p n m ≡ [])
unfolding match_key_at
key_turn p n true None P K h e f = ((rw (e, append-nil K)), λ z. absurd (false≢true (sym z)))
key_turn p n true (Some m) P K h e f = ((rw (e, h)), λ z. absurd (false≢true (sym z)))
key_turn p n false None P K h e f = ((rw e), λ _. (rw (f refl)))
key_turn p n false (Some m) P K h e f = ((rw (e, f refl, h)), λ z. absurd (false≢true (sym z)))

key_led : (p : Pgn) (n : ℕ)
    → (concat_below (λ k. piece k (field_at p k).match) n ≡ (if has_match p n then 44 ∷ concat_below (λ k. match_key_at p k (field_at p k).match) n else []))
    × (has_match p n ≡ false → concat_below (λ k. match_key_at p k (field_at p k).match) n ≡ [])
unfolding has_match
key_led p zero = (refl, λ _. refl)
key_led p (suc n) =
    let r = key_led p n in
    key_turn p n (has_match p n) (field_at p n).match (concat_below (λ k. piece k (field_at p k).match) n)
    (concat_below (λ k. match_key_at p k (field_at p k).match) n) refl r.0 r.1

pub same_keys : (p q : Pgn) → has_match p (length p.fields) ≡ true → has_match q (length q.fields) ≡ true
    → (pieces_from p 0 (length p.fields) ≐ pieces_from q 0 (length q.fields)) ≡ (match_key p ≐ match_key q)
unfolding match_key
same_keys p q h k =
    rw (all_pieces p (length p.fields), all_pieces q (length q.fields), (key_led p (length p.fields)).0, (key_led q (length q.fields)).0, h, k)

-- ---- a step

text_split : (s : List ℕ) (a n : ℕ) → (length (take n (drop a s)) ≡ 0 → ⊥)
    → (a < length s) × (1 ≤ n) × (take n (drop a s) ≡ get_or (take n (drop a s)) 0 0 ∷ take (n - 1) (drop (a + 1) s))
text_split s a zero h = absurd (h refl)
text_split s a (suc n) h = go (dec_lt a (length s))
  where
    go : Dec (a < length s) → (a < length s) × (1 ≤ suc n) × (take (suc n) (drop a s) ≡ get_or (take (suc n) (drop a s)) 0 0 ∷ take (suc n - 1)
        (drop (a + 1) s))
    go (yes l) = let r : suc n - 1 ≡ n = omega arith in (l, omega arith, (rw (r, add-one a, drop-cons s a 0 l)))
    go (no l) = absurd (h (rw (drop_of_length-le s {i = a} (omega arith))))

module _ (s : List ℕ) (p : Pgn) where
  pub nothing_before : (key : MatchKey) → drop key.at key.head ≡ [] → key.text.len ≡ 0 → key.field ≡ 0
      → to_come s p key ≡ pieces_from p 0 (length p.fields)
  unfolding to_come
  nothing_before key d l f = let e : length p.fields - 0 ≡ length p.fields = omega arith in rw (d, l, f, e)

  pub head_byte : (key : MatchKey) → key.at < length key.head
      → to_come s p key ≡ get_or key.head key.at 0 ∷ to_come s p (record { field = key.field; head = key.head; at = key.at + 1; text = key.text })
  unfolding to_come
  head_byte key h = rw (add-one key.at, drop-cons key.head key.at 0 h)

  module _ (key : MatchKey) (l : length key.head ≤ key.at) (b : Bytes) (e : b ≡ bytes_of s key.text) where
    pub text_ended : length b ≡ 0 → to_come s p key ≡ pieces_from p key.field (length p.fields - key.field)
    unfolding to_come
    text_ended z = rw (drop_of_length-le key.head l, ← e) (go b z)
      where
        go : (b : Bytes) → length b ≡ 0
            → b ++ pieces_from p key.field (length p.fields - key.field) ≡ pieces_from p key.field (length p.fields - key.field)
        go [] z = refl
        go (x ∷ b) z = absurd (omega arith)

    pub text_there : (length b ≡ 0 → ⊥) → (key.text.start < length s) × (1 ≤ key.text.len)
    text_there z = let t = text_split s key.text.start key.text.len (λ y. z (ap length e ∙ y)) in (t.0, t.1)

    pub text_byte : (length b ≡ 0 → ⊥)
        → to_come s p key ≡ get_or b 0 0 ∷ to_come s p
        (record { field = key.field; head = key.head; at = key.at; text = record { start = key.text.start + 1; len = key.text.len - 1 } })
    unfolding to_come
    text_byte z =
        let t = text_split s key.text.start key.text.len (λ y. z (ap length e ∙ y)) in
        rw (drop_of_length-le key.head l, e) (ap (λ (x : Bytes). x ++ pieces_from p key.field (length p.fields - key.field)) t.2)

  -- a piece that begins
  pub piece_begun : (k n : ℕ) (text : Text) (r : KeyByte) → k < n → n ≡ length p.fields → (field_at p k).match ≡ Some (bytes_of s text)
      → Begun k text r
      → pieces_from p k (n - k) ≡ first_and s p (Some r)
  unfolding to_come
  piece_begun k n text r h e m b =
      rw (pieces_next p k n h, m, b.byte, b.written, b.text, b.field, ← e)
      (ap (λ (x : Bytes). 44 ∷ x) (append_assoc (digits k ++ bytes "=") (bytes_of s text) (pieces_from p (k + 1) (n - (k + 1)))))
