-- Two PGNs of a tree have one place text exactly if they have one number and one id: what `dedup` compares in R24.
use Rattle.std.specs.Prelude.{ℕ, zero, suc, ◌+◌, ◌-◌, ◌*◌, ◌/◌, ◌%◌, ◌^◌, ◌<◌, Bool, true, false, ◌&&◌, ◌≡◌, refl, length, replicate, ◌==◌, if◌then◌else◌}
use Rattle.std.proofs.Common.{mod-lt, mod-eq_of_lt, div-add-mod', div-lt_iff_lt-mul, pow-suc, arith, sym, ap, ◌∙◌}
use Rattle.std.proofs.Common.{ltb-true, leb-true, le-leb, eqb-true, eq-eqb, ne_eqb}
use Rattle.std.proofs.lemmas.Bool.{false≢true}
use mathlib.Core.List.{[], ◌∷◌, ◌++◌, append_assoc, append_cancel_left, append_cancel_right, tail-eq_of_cons-eq}
use Rattle.pack.specs.Notation.{◌<ᵇ◌, ◌≤ᵇ◌, ◌≐◌}
use Rattle.pack.specs.Value.{Bytes, Pgn}
use Rattle.rules.specs.Digits.{digits_within, digits, six_digits}
use Rattle.numerals.specs.Numerals.{is_digit, all_digits, decimal}
use Rattle.rules.specs.PlaceText.{check_prefix, pgn_loc}
use Rattle.rules.specs.Texts.{bytes}

-- the same bytes
pub same_refl : (s : Bytes) → (s ≐ s) ≡ true
same_refl [] = refl
same_refl (b ∷ s) = rw (eq-eqb b b refl) (same_refl s)

pub same_eq : (s t : Bytes) → (s ≐ t) ≡ true → s ≡ t
same_eq [] [] e = refl
same_eq [] (b ∷ t) e = absurd (false≢true e)
same_eq (a ∷ s) [] e = absurd (false≢true e)
same_eq (a ∷ s) (b ∷ t) e = go (a == b) refl e (same_eq s t)
  where
    go : (c : Bool) → (a == b) ≡ c → (c && (s ≐ t)) ≡ true → ((s ≐ t) ≡ true → s ≡ t) → ◌≡◌ {A = Bytes} (a ∷ s) (b ∷ t)
    go true q h rec = let x = eqb-true a b q in let y = rec h in cc
    go false q h rec = absurd (false≢true h)

-- digits are digits
all_append : (xs ys : Bytes) → all_digits xs ≡ true → all_digits ys ≡ true → all_digits (xs ++ ys) ≡ true
all_append [] ys h k = k
all_append (x ∷ xs) ys h k = go (is_digit x) refl h (all_append xs ys)
  where
    go : (b : Bool) → is_digit x ≡ b → (b && all_digits xs) ≡ true → (all_digits xs ≡ true → all_digits ys ≡ true → all_digits (xs ++ ys) ≡ true)
        → (is_digit x && all_digits (xs ++ ys)) ≡ true
    go true e h rec = rw e (rec h k)
    go false e h rec = absurd (false≢true h)

one_digit : (n : ℕ) → all_digits ((48 + n % 10) ∷ []) ≡ true
one_digit n =
    let m : n % 10 < 10 = mod-lt n (omega arith) in
    rw (le-leb 48 (48 + n % 10) (omega arith), le-leb (48 + n % 10) 57 (omega arith))

within_digits : (room n : ℕ) → all_digits (digits_within room n) ≡ true
within_digits zero n = refl
within_digits (suc room) n = all_append (if n <ᵇ 10 then [] else digits_within room (n / 10)) _ (go (n <ᵇ 10) (within_digits room (n / 10))) (one_digit n)
  where
    go : (b : Bool) → all_digits (digits_within room (n / 10)) ≡ true → all_digits (if b then [] else digits_within room (n / 10)) ≡ true
    go true h = refl
    go false h = h

zeros_digits : (k : ℕ) → all_digits (replicate k 48) ≡ true
zeros_digits zero = refl
zeros_digits (suc k) = zeros_digits k

six_all : (n : ℕ) → all_digits (six_digits n) ≡ true
unfolding six_digits digits
six_all n = let k = 6 - length (digits n) in all_append (replicate k 48) (digits_within 10 n) (zeros_digits k) (within_digits 10 n)

-- they write the number
decimal_append : (v : ℕ) (xs ys : Bytes) → decimal v (xs ++ ys) ≡ decimal (decimal v xs) ys
decimal_append v [] ys = refl
decimal_append v (x ∷ xs) ys = decimal_append (10 * v + (x - 48)) xs ys

decimal_within : (room n : ℕ) → n < 10 ^ room → decimal 0 (digits_within room n) ≡ n
decimal_within zero n h = omega arith
decimal_within (suc room) n h =
    decimal_append 0 (if n <ᵇ 10 then [] else digits_within room (n / 10)) ((48 + n % 10) ∷ []) ∙ go (n <ᵇ 10) refl (decimal_within room (n / 10))
  where
    go : (b : Bool) → (n <ᵇ 10) ≡ b → (n / 10 < 10 ^ room → decimal 0 (digits_within room (n / 10)) ≡ n / 10)
        → 10 * decimal 0 (if b then [] else digits_within room (n / 10)) + (48 + n % 10 - 48) ≡ n
    go true e rec = omega (arith, mod-eq_of_lt (ltb-true n 10 e))
    go false e rec = omega (arith, rec ((div-lt_iff_lt-mul (omega arith)).1 (rw (pow-suc 10 room) at h)), div-add-mod' n 10)

decimal_zeros : (k : ℕ) (xs : Bytes) → decimal 0 (replicate k 48 ++ xs) ≡ decimal 0 xs
decimal_zeros zero xs = refl
decimal_zeros (suc k) xs = decimal_zeros k xs

six_value : (n : ℕ) → n < 10 ^ 10 → decimal 0 (six_digits n) ≡ n
unfolding six_digits digits
six_value n h = decimal_zeros (6 - length (digits n)) (digits_within 10 n) ∙ decimal_within 10 n h

-- so the number ends at the first `-`
abbrev before_dash : Bytes → Bytes
before_dash [] = []
before_dash (b ∷ bs) = if b == 45 then [] else b ∷ before_dash bs

not_dash : (d : ℕ) → is_digit d ≡ true → (d == 45) ≡ false
not_dash d e = go (48 ≤ᵇ d) refl e
  where
    go : (b : Bool) → (48 ≤ᵇ d) ≡ b → (b && (d ≤ᵇ 57)) ≡ true → (d == 45) ≡ false
    go true q h = ne_eqb d 45 (λ z. omega (arith, leb-true 48 d q))
    go false q h = absurd (false≢true h)

dash_ends : (ds rest : Bytes) → all_digits ds ≡ true → before_dash (ds ++ (45 ∷ rest)) ≡ ds
dash_ends [] rest h = refl
dash_ends (d ∷ ds) rest h = go (is_digit d) refl h (dash_ends ds rest)
  where
    go : (b : Bool) → is_digit d ≡ b → (b && all_digits ds) ≡ true → (all_digits ds ≡ true → before_dash (ds ++ (45 ∷ rest)) ≡ ds)
        → before_dash ((d ∷ ds) ++ (45 ∷ rest)) ≡ d ∷ ds
    go true e h rec = rw (not_dash d e, rec h)
    go false e h rec = absurd (false≢true h)

abbrev from_dash : Pgn → Bytes
from_dash p = 45 ∷ (p.id ++ bytes ".yaml")

pgn_loc_is : (t : ℕ) (p : Pgn) → pgn_loc t p ≡ check_prefix t ++ bytes "pgns/" ++ (six_digits p.pgn ++ from_dash p)
unfolding pgn_loc
pgn_loc_is t p =
    let front = check_prefix t ++ bytes "pgns/" in
    let six = six_digits p.pgn in
    append_assoc (front ++ six ++ bytes "-") p.id (bytes ".yaml")
    ∙ append_assoc (front ++ six) (bytes "-") (p.id ++ bytes ".yaml")
    ∙ append_assoc front six (from_dash p)

pub one_place : (t : ℕ) (p q : Pgn) → p.pgn < 10 ^ 10 → q.pgn < 10 ^ 10 → pgn_loc t p ≡ pgn_loc t q → (p.pgn ≡ q.pgn) × (p.id ≡ q.id)
one_place t p q a b e =
    let front = check_prefix t ++ bytes "pgns/" in
    let rest = append_cancel_left front (six_digits p.pgn ++ from_dash p) (six_digits q.pgn ++ from_dash q) (sym (pgn_loc_is t p) ∙ e ∙ pgn_loc_is t q) in
    let six : six_digits p.pgn ≡ six_digits q.pgn =
    sym (dash_ends (six_digits p.pgn) (p.id ++ bytes ".yaml") (six_all p.pgn)) ∙ ap before_dash rest
    ∙ dash_ends (six_digits q.pgn) (q.id ++ bytes ".yaml") (six_all q.pgn) in
    let dash = append_cancel_left (six_digits q.pgn) (from_dash p) (from_dash q) (ap (λ (x : Bytes). x ++ from_dash p) (sym six) ∙ rest) in (
      sym (six_value p.pgn a) ∙ ap (decimal 0) six ∙ six_value q.pgn b,
      append_cancel_right p.id q.id (bytes ".yaml") (tail-eq_of_cons-eq dash),
    )

-- as a test
pub same_place : (t : ℕ) (p q : Pgn) → p.pgn < 10 ^ 10 → q.pgn < 10 ^ 10 → (pgn_loc t p ≐ pgn_loc t q) ≡ ((p.pgn == q.pgn) && (p.id ≐ q.id))
unfolding pgn_loc
same_place t p q a b = go (pgn_loc t p ≐ pgn_loc t q) refl (p.pgn == q.pgn) refl (p.id ≐ q.id) refl
  where
    go : (x : Bool) → (pgn_loc t p ≐ pgn_loc t q) ≡ x → (y : Bool) → (p.pgn == q.pgn) ≡ y → (z : Bool) → (p.id ≐ q.id) ≡ z → x ≡ (y && z)
    go true u y v z w =
        let s = one_place t p q a b (same_eq (pgn_loc t p) (pgn_loc t q) u) in
        let number : y ≡ true = sym v ∙ eq-eqb p.pgn q.pgn s.0 in
        let id : z ≡ true = sym w ∙ rw s.1 (same_refl q.id) in
        rw (number, id)
    go false u true v true w =
        let e : pgn_loc t p ≡ pgn_loc t q = rw (eqb-true p.pgn q.pgn v, same_eq p.id q.id w) in
        absurd (false≢true (sym u ∙ rw e (same_refl (pgn_loc t q))))
    go false u true v false w = refl
    go false u false v z w = refl
