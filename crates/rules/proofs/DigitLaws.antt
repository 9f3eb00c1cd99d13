-- Laws of decimal digits.
use Rattle.std.specs.Prelude.{if◌then◌else◌}
use Rattle.std.specs.Fmt.{decimal}
use Rattle.std.proofs.lemmas.Fmt.{decimal_digit, decimal_step}
use Prim.Native.Nat.{ℕ, zero, suc, ◌+◌, ◌-◌, ◌/◌, ◌%◌, ◌^◌, ◌≤◌, ◌<◌}
use native.Mathlib.Nat.{div-lt_iff_lt-mul, le-div_iff_mul-le, div-div-eq-div-mul, pow-suc, pow-succ', pow-le-pow_right}
use native.Mathlib.Omega.{arith}
use mathlib.Core.Bool.{Bool, true, false}
use mathlib.Core.List.{[], ◌∷◌, ◌++◌, append_assoc}
use mathlib.Core.Path.{◌≡◌, refl, sym, ◌∙◌, ap}
use borrow.Author.Tests.{lt-ltb, le-ltb, ltb-true, ltb-false}
use lib.ListN.{length, get_or, replicate, length-append, replicate-append-replicate}
use Rattle.pack.specs.Notation.{◌<ᵇ◌}
use Rattle.pack.specs.Value.{Bytes}
use Rattle.rules.specs.Digits.{digits_within, digits}

decimal_last : (n : ℕ) → n < 10 → decimal n ≡ (48 + n % 10) ∷ []
decimal_last n h = let d : n ≡ n % 10 = omega arith in decimal_digit n h ∙ ap (λ (k : ℕ). (48 + k) ∷ []) d

-- the library's digits, in enough room
decimal_digits : (room n : ℕ) → n < 10 ^ suc room → n < 2 ^ 64 → decimal n ≡ digits_within (suc room) n
decimal_digits zero n h l = rw (lt-ltb n 10 (omega arith)) (decimal_last n (omega arith))
decimal_digits (suc room) n h l = go (n <ᵇ 10) refl (decimal_digits room (n / 10))
  where
    last : Bytes
    last = (48 + n % 10) ∷ []

    go : (b : Bool) → (n <ᵇ 10) ≡ b → (n / 10 < 10 ^ suc room → n / 10 < 2 ^ 64 → decimal (n / 10) ≡ digits_within (suc room) (n / 10))
        → decimal n ≡ (if b then [] else digits_within (suc room) (n / 10)) ++ last
    go true e rec = decimal_last n (ltb-true n 10 e)
    go false e rec =
        let tenth : n / 10 < 10 ^ suc room = (div-lt_iff_lt-mul {k = 10} (omega arith)).1 (rw (← pow-suc 10 (suc room)) h) in
        decimal_step n (ltb-false n 10 e) l ∙ ap (λ (ds : Bytes). ds ++ last) (rec tenth (omega (arith, l)))

pub decimal_is : (n : ℕ) → n < 4294967296 → decimal n ≡ digits n
unfolding digits
decimal_is n h = decimal_digits 9 n (omega arith) (omega arith)

digits_short : (room n : ℕ) → length (digits_within room n) ≤ room
digits_short zero n = omega arith
digits_short (suc room) n = omega
    (arith, length-append (if n <ᵇ 10 then [] else digits_within room (n / 10)) ((48 + n % 10) ∷ []), go (n <ᵇ 10) (digits_short room (n / 10)))
  where
    go : (b : Bool) → length (digits_within room (n / 10)) ≤ room → length (if b then [] else digits_within room (n / 10)) ≤ room
    go true h = omega arith
    go false h = h

pub ten_digits : (n : ℕ) → length (digits n) ≤ 10
unfolding digits
ten_digits n = digits_short 10 n

-- a tenth has a digit less
pub lower : (k v : ℕ) → v < 10 ^ suc k → v / 10 < 10 ^ k
lower k v h = (div-lt_iff_lt-mul {k = 10} (omega arith)).1 (rw (← pow-suc 10 k) h)

-- ten and more has two
pub two_digits : (k v : ℕ) → 10 ≤ v → v < 10 ^ k → 2 ≤ k
two_digits zero v h l = absurd (omega arith)
two_digits (suc zero) v h l = absurd (omega arith)
two_digits (suc (suc k)) v h l = omega arith

one_digit : (room v : ℕ) → v < 10 → digits_within (suc room) v ≡ (48 + v % 10) ∷ []
one_digit room v h = rw (lt-ltb v 10 h)

more_digits : (room v : ℕ) → 10 ≤ v → digits_within (suc room) v ≡ digits_within room (v / 10) ++ (48 + v % 10) ∷ []
more_digits room v h = rw (le-ltb v 10 h)

-- so many of the lowest digits, zeros where there are no more
abbrev pub lowest_digits : (places v : ℕ) → Bytes
lowest_digits zero v = []
lowest_digits (suc places) v = lowest_digits places (v / 10) ++ (48 + v % 10) ∷ []

pub length_lowest : (places v : ℕ) → length (lowest_digits places v) ≡ places
length_lowest zero v = refl
length_lowest (suc places) v = omega (arith, length-append (lowest_digits places (v / 10)) ((48 + v % 10) ∷ []), length_lowest places (v / 10))

lowest_zeros : (places : ℕ) → lowest_digits places 0 ≡ replicate places 48
lowest_zeros zero = refl
lowest_zeros (suc places) =
    let e : places + 1 ≡ suc places = omega arith in
    ap (λ (ds : Bytes). ds ++ 48 ∷ []) (lowest_zeros places) ∙ replicate-append-replicate places 1 48 ∙ ap (λ (k : ℕ). replicate k 48) e

-- the digits with zeros before them
lowest_within : (room places v : ℕ) → v < 10 ^ room → 1 ≤ room → length (digits_within room v) ≤ places
    → lowest_digits places v ≡ replicate (places - length (digits_within room v)) 48 ++ digits_within room v
lowest_within zero places v few some_left enough = absurd (omega arith)
lowest_within (suc room) zero v few some_left enough =
    absurd (omega (arith, enough, length-append (if v <ᵇ 10 then [] else digits_within room (v / 10)) ((48 + v % 10) ∷ [])))
lowest_within (suc room) (suc places) v few some_left enough = go (v <ᵇ 10) refl enough (lowest_within room places (v / 10) (lower room v few))
  where
    d : Bytes
    d = (48 + v % 10) ∷ []

    ds : Bytes
    ds = digits_within room (v / 10)

    go : (b : Bool) → (v <ᵇ 10) ≡ b → length ((if b then [] else ds) ++ d) ≤ suc places
        → (1 ≤ room → length ds ≤ places → lowest_digits places (v / 10) ≡ replicate (places - length ds) 48 ++ ds)
        → lowest_digits places (v / 10) ++ d ≡ replicate (suc places - length ((if b then [] else ds) ++ d)) 48 ++ ((if b then [] else ds) ++ d)
    go true e enough rec =
        let tenth : v / 10 ≡ 0 = omega (arith, ltb-true v 10 e) in
        let left : suc places - 1 ≡ places = omega arith in
        rw (tenth, left, lowest_zeros places)
    go false e enough rec =
        let left : suc places - length (ds ++ d) ≡ places - length ds = omega (arith, length-append ds d) in
        let high : 1 ≤ room = omega (arith, two_digits (suc room) v (ltb-false v 10 e) few) in
        rw (left, rec high (omega (arith, enough, length-append ds d))) (append_assoc (replicate (places - length ds) 48) ds d)

pub lowest_are : (places n : ℕ) → n < 4294967296 → length (digits n) ≤ places → lowest_digits places n ≡ replicate (places - length (digits n)) 48 ++ digits n
unfolding digits
lowest_are places n h enough = lowest_within 10 places n (omega arith) (omega arith) enough

-- from a power of ten to the next all numbers have as many digits
long_within : (room k n : ℕ) → k < room → 10 ^ k ≤ n → n < 10 ^ suc k → length (digits_within room n) ≡ suc k
long_within zero k n r l h = absurd (omega arith)
long_within (suc room) zero n r l h = ap length (one_digit room n (omega arith))
long_within (suc room) (suc k) n r l h =
    let some : 1 ≤ 10 ^ k = pow-le-pow_right {n = 10} (omega arith) {i = 0} {j = k} (omega arith) in
    let low : 10 ^ k ≤ n / 10 = (le-div_iff_mul-le {k = 10} (omega arith)).1 (rw (← pow-suc 10 k) l) in
    let ten : 10 ≤ n = omega (arith, some, low) in
    let rest = long_within room k (n / 10) (omega arith) low (lower (suc k) n h) in
    ap length (more_digits room n ten) ∙ length-append (digits_within room (n / 10)) ((48 + n % 10) ∷ []) ∙ omega (arith, rest)

pub long : (k n : ℕ) → k < 10 → 10 ^ k ≤ n → n < 10 ^ suc k → length (digits n) ≡ suc k
unfolding digits
long k n = long_within 10 k n

-- the digits at the places below k, the highest first
abbrev pub from_highest : (k n : ℕ) → Bytes
from_highest zero n = []
from_highest (suc k) n = (48 + n / 10 ^ k % 10) ∷ from_highest k n

pub length_highest : (k n : ℕ) → length (from_highest k n) ≡ k
length_highest zero n = refl
length_highest (suc k) n = ap suc (length_highest k n)

pub highest_at : (k n i : ℕ) → i < k → get_or (from_highest k n) i 0 ≡ 48 + n / 10 ^ (k - 1 - i) % 10
highest_at zero n i h = absurd (omega arith)
highest_at (suc k) n zero h = let e : suc k - 1 - 0 ≡ k = omega arith in rw e
highest_at (suc k) n (suc i) h = let e : suc k - 1 - suc i ≡ k - 1 - i = omega arith in rw e (highest_at k n i (omega arith))

highest_lowest : (k n : ℕ) → from_highest (suc k) n ≡ from_highest k (n / 10) ++ ((48 + n % 10) ∷ [])
highest_lowest zero n = let e : n / 1 ≡ n = omega arith in rw e
highest_lowest (suc k) n =
    let e : n / 10 ^ suc k ≡ n / 10 / 10 ^ k = (rw (pow-succ' 10 k)) ∙ sym (div-div-eq-div-mul n 10 (10 ^ k)) in
    rw e (ap (λ (ds : Bytes). (48 + n / 10 / 10 ^ k % 10) ∷ ds) (highest_lowest k n))

pub highest_are : (k n : ℕ) → from_highest k n ≡ lowest_digits k n
highest_are zero n = refl
highest_are (suc k) n = highest_lowest k n ∙ ap (λ (ds : Bytes). ds ++ ((48 + n % 10) ∷ [])) (highest_are k (n / 10))
