-- Equality of floats is symmetric and transitive. It is not reflexive: a NaN equals nothing.
use Prim.Native.Nat.{ℕ, ◌*◌, ◌≤◌, ◌<◌}
use native.Mathlib.Nat.{zero-mul, le_of_eq, mul_comm, mul_assoc, le_of_mul-le-mul_right}
use native.Mathlib.Omega.{arith}
use mathlib.Core.Path.{◌≡◌, refl, sym, ap, ◌∙◌}
use mathlib.Core.Bool.{Bool, true, false, ◌||◌, beq, false≢true}
use lib.Dec.{eqb}
use borrow.Author.Tests.{eqb-true, eq-eqb}
use lib.Ieee.{Float, nan, inf, fin, eq, level, up, down}
use lib.Ieee.Fits.{down_pos}
use Rattle.rules.proofs.Extremes.{and_left, and_right}

cancel : (a b c : ℕ) → 0 < c → a * c ≡ b * c → a ≡ b
cancel a b c h e =
    let l : a ≤ b = le_of_mul-le-mul_right (le_of_eq e) h in
    let r : b ≤ a = le_of_mul-le-mul_right (le_of_eq (sym e)) h in
    omega arith

same_sym : (s t : Bool) → beq s t ≡ true → beq t s ≡ true
same_sym true true e = refl
same_sym true false e = absurd (false≢true e)
same_sym false true e = absurd (false≢true e)
same_sym false false e = refl

same_trans : (s t u : Bool) → beq s t ≡ true → beq t u ≡ true → beq s u ≡ true
same_trans true true u e h = h
same_trans true false u e h = absurd (false≢true e)
same_trans false true u e h = absurd (false≢true e)
same_trans false false u e h = h

-- equal sizes, and one sign or no size
level_i : (s : Bool) (a : ℕ) (t : Bool) (b : ℕ) → a ≡ b → (beq s t || eqb a 0) ≡ true → level s a t b ≡ true
level_i s a t b e h = rw (eq-eqb a b e) h

or_true : (x z : Bool) → z ≡ true → (x || z) ≡ true
or_true true z e = refl
or_true false z e = e

level_sym : (s : Bool) (a : ℕ) (t : Bool) (b : ℕ) → level s a t b ≡ true → level t b s a ≡ true
level_sym s a t b h =
    let e = eqb-true a b (and_left (eqb a b) _ h) in
    level_i t b s a (sym e) (go (beq s t) refl (and_right (eqb a b) _ h))
  where
    go : (x : Bool) → beq s t ≡ x → (beq s t || eqb a 0) ≡ true → (beq t s || eqb b 0) ≡ true
    go true q k = rw (same_sym s t q)
    go false q k =
        let z = eqb-true a 0 (rw q at k) in
        or_true (beq t s) _ (eq-eqb b 0 (omega (arith, eqb-true a b (and_left (eqb a b) _ h))))

pub eq_sym : (x y : Float) → eq x y ≡ true → eq y x ≡ true
unfolding eq
eq_sym nan y h = absurd (false≢true h)
eq_sym (inf s) nan h = absurd (false≢true h)
eq_sym (inf s) (inf t) h = same_sym s t h
eq_sym (inf s) (fin t n d) h = absurd (false≢true h)
eq_sym (fin s m e) nan h = absurd (false≢true h)
eq_sym (fin s m e) (inf t) h = absurd (false≢true h)
eq_sym (fin s m e) (fin t n d) h = level_sym s (m * up e * down d) t (n * up d * down e) h

-- sizes a / ea, b / eb, c / ec
module _ (a b c ea eb ec : ℕ) (pa : 0 < ea) (pb : 0 < eb) (pc : 0 < ec) (p : a * eb ≡ b * ea) (q : b * ec ≡ c * eb) where
  across : a * ec ≡ c * ea
  across =
      cancel (a * ec) (c * ea) eb pb
      (let l : a * ec * eb ≡ b * ea * ec = simp (mul_assoc, mul_comm) (simp mul_assoc at (ap (λ (z : ℕ). z * ec) p)) in
      let r : b * ea * ec ≡ c * ea * eb = simp mul_assoc (simp (mul_assoc, mul_comm) at (ap (λ (z : ℕ). z * ea) q)) in
      l ∙ r)

  nothing : a * eb ≡ 0 → a ≡ 0
  nothing h = cancel a 0 eb pb (omega (arith, h))

  -- no size at the middle: none at the first
  middle : b * ec ≡ 0 → a ≡ 0
  middle h = let z : b ≡ 0 = cancel b 0 ec pc (omega (arith, h)) in nothing (p ∙ ap (λ (x : ℕ). x * ea) z ∙ zero-mul ea)

  level_trans : (s t u : Bool) → (beq s t || eqb (a * eb) 0) ≡ true → (beq t u || eqb (b * ec) 0) ≡ true
      → (beq s u || eqb (a * ec) 0) ≡ true
  level_trans s t u h k = go (beq s t) refl (beq t u) refl
    where
      none_left : a ≡ 0 → (beq s u || eqb (a * ec) 0) ≡ true
      none_left z = or_true (beq s u) _ (eq-eqb (a * ec) 0 (ap (λ (x : ℕ). x * ec) z ∙ zero-mul ec))

      go : (x : Bool) → beq s t ≡ x → (y : Bool) → beq t u ≡ y → (beq s u || eqb (a * ec) 0) ≡ true
      go true e true f = rw (same_trans s t u e f)
      go true e false f = none_left (middle (eqb-true (b * ec) 0 (rw f at k)))
      go false e y f = none_left (nothing (eqb-true (a * eb) 0 (rw e at h)))

pub eq_trans : (x y z : Float) → eq x y ≡ true → eq y z ≡ true → eq x z ≡ true
unfolding eq
eq_trans nan y z h k = absurd (false≢true h)
eq_trans (inf s) nan z h k = absurd (false≢true h)
eq_trans (inf s) (inf t) nan h k = absurd (false≢true k)
eq_trans (inf s) (inf t) (inf u) h k = same_trans s t u h k
eq_trans (inf s) (inf t) (fin u n d) h k = absurd (false≢true k)
eq_trans (inf s) (fin t n d) z h k = absurd (false≢true h)
eq_trans (fin s m e) nan z h k = absurd (false≢true h)
eq_trans (fin s m e) (inf t) z h k = absurd (false≢true h)
eq_trans (fin s m e) (fin t n d) nan h k = absurd (false≢true k)
eq_trans (fin s m e) (fin t n d) (inf u) h k = absurd (false≢true k)
eq_trans (fin s m e) (fin t n d) (fin u o g) h k =
    let p = eqb-true (m * up e * down d) (n * up d * down e) (and_left (eqb (m * up e * down d) (n * up d * down e)) _ h) in
    let q = eqb-true (n * up d * down g) (o * up g * down d) (and_left (eqb (n * up d * down g) (o * up g * down d)) _ k) in
    level_i s (m * up e * down g) u (o * up g * down e)
    (across (m * up e) (n * up d) (o * up g) (down e) (down d) (down g) (down_pos e) (down_pos d) (down_pos g) p q)
    (level_trans (m * up e) (n * up d) (o * up g) (down e) (down d) (down g) (down_pos e) (down_pos d) (down_pos g) p q s t u
    (and_right (eqb (m * up e * down d) (n * up d * down e)) _ h) (and_right (eqb (n * up d * down g) (o * up g * down d)) _ k))
