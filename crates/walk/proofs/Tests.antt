-- Tests as facts: what it says that a Bool is true or false.
use Prim.Native.Nat.{ℕ, zero, suc, ◌≤◌, ◌<◌}
use native.Mathlib.Omega.{arith}
use native.Mathlib.Decide.{ℕ_discrete}
use mathlib.Core.Path.{◌≡◌, refl, sym, ap, ◌∙◌}
use mathlib.Core.Bool.{Bool, true, false, not, ◌&&◌, ◌||◌, false≢true}
use Rattle.std.specs.Prelude.{Some}
use lib.Dec.{ltb}
use borrow.Author.Tests.{ltb-true, ltb-false, eq-eqb, ne_eqb}
use Rattle.rules.specs.SearchLaws.{below_suc}
use Rattle.rules.specs.Search.{any_below, every_below, latest_below}
use Rattle.walk.specs.Passes.{put}

pub and_l : (a b : Bool) → (a && b) ≡ true → a ≡ true
and_l true b e = refl
and_l false b e = e

pub and_r : (a b : Bool) → (a && b) ≡ true → b ≡ true
and_r true b e = e
and_r false b e = absurd (false≢true e)

pub and_i : (a b : Bool) → a ≡ true → b ≡ true → (a && b) ≡ true
and_i true b p q = q
and_i false b p q = p

pub imp_e : (a b : Bool) → (not a || b) ≡ true → a ≡ true → b ≡ true
imp_e true b e p = e
imp_e false b e p = absurd (false≢true p)

pub imp_i : (a b : Bool) → (a ≡ true → b ≡ true) → (not a || b) ≡ true
imp_i true b f = f refl
imp_i false b f = refl

pub or_l : (a b : Bool) → (a || b) ≡ false → a ≡ false
or_l true b e = e
or_l false b e = refl

pub or_r : (a b : Bool) → (a || b) ≡ false → b ≡ false
or_r true b e = absurd (false≢true (sym e))
or_r false b e = e

pub or_i : (a b : Bool) → a ≡ false → b ≡ false → (a || b) ≡ false
or_i true b p q = p
or_i false b p q = q

pub and_none : (b : Bool) → (b && false) ≡ false
and_none true = refl
and_none false = refl

-- a test that is not both passed and failed
pub and_false : (a b : Bool) → (a && b) ≡ false → a ≡ true → b ≡ false
and_false true b e p = e
and_false false b e p = absurd (false≢true p)

pub and_not : (a b : Bool) → (a ≡ true → b ≡ true) → (a && not b) ≡ false
and_not true b f = rw (f refl)
and_not false b f = refl

pub and_4 : (a b c d : Bool) → (a && b && c && d) ≡ true → (a ≡ true) × (b ≡ true) × (c ≡ true) × (d ≡ true)
and_4 true b c d e = (refl, and_l b c (and_l (b && c) d e), and_r b c (and_l (b && c) d e), and_r (b && c) d e)
and_4 false b c d e = absurd (false≢true e)

pub bool_eq : (a b : Bool) → (a ≡ true → b ≡ true) → (b ≡ true → a ≡ true) → a ≡ b
bool_eq true b f g = sym (f refl)
bool_eq false true f g = g refl
bool_eq false false f g = refl

-- for all, and for some, below a number
pub every_e : (f : ℕ → Bool) (n : ℕ) → every_below f n ≡ true → (k : ℕ) → k < n → f k ≡ true
every_e f zero e k h = absurd (omega arith)
every_e f (suc n) e k h = go (ℕ_discrete k n) (every_e f n (and_l _ _ e) k)
  where
    go : Dec (k ≡ n) → (k < n → f k ≡ true) → f k ≡ true
    go (yes q) r = rw q (and_r (every_below f n) _ e)
    go (no q) r = r (omega arith)

pub every_i : (f : ℕ → Bool) (n : ℕ) → ((k : ℕ) → k < n → f k ≡ true) → every_below f n ≡ true
every_i f zero h = refl
every_i f (suc n) h = and_i (every_below f n) _ (every_i f n (λ k l. h k (omega arith))) (h n (omega arith))

pub none_below : (f : ℕ → Bool) (n : ℕ) → ((k : ℕ) → k < n → f k ≡ false) → any_below f n ≡ false
none_below f zero h = refl
none_below f (suc n) h = or_i (any_below f n) _ (none_below f n (λ k l. h k (omega arith))) (h n (omega arith))

-- which one, where there is one
pub record Hit (f : ℕ → Bool) (n : ℕ) : Type 0 where
  pub at : ℕ
  pub low : at < n
  pub has : f at ≡ true

pub any_e : (f : ℕ → Bool) (n : ℕ) → any_below f n ≡ true → Hit f n
any_e f zero e = absurd (false≢true e)
any_e f (suc n) e = go (any_below f n) refl (any_e f n)
  where
    go : (b : Bool) → any_below f n ≡ b → (any_below f n ≡ true → Hit f n) → Hit f (suc n)
    go true q r = let s = r q in record { at = s.at; low = omega (arith, s.low); has = s.has }
    go false q r = record { at = n; low = omega arith; has = rw q at e }

-- the latest one, not below one that is known
pub record Latest (f : ℕ → Bool) (n k : ℕ) : Type 0 where
  pub at : ℕ
  pub is : latest_below f n ≡ Some at
  pub from : k ≤ at

pub latest_from : (f : ℕ → Bool) (n k : ℕ) → k < n → f k ≡ true → Latest f n k
latest_from f zero k h e = absurd (omega arith)
latest_from f (suc n) k h e = go (f n) refl (latest_from f n k)
  where
    below : f n ≡ false → Latest f n k → Latest f (suc n) k
    below q s = record { at = s.at; is = rw q s.is; from = s.from }

    go : (b : Bool) → f n ≡ b → (k < n → f k ≡ true → Latest f n k) → Latest f (suc n) k
    go true q r = record { at = n; is = rw q; from = omega arith }
    go false q r = below_suc k n h (λ l. below q (r l e)) (λ s. absurd (false≢true (sym q ∙ ap f (sym s) ∙ e)))

pub put_same : {A : Type 0} (f : ℕ → A) (k : ℕ) (x : A) → put f k x k ≡ x
unfolding put
put_same f k x = rw (eq-eqb k k refl, put)

pub put_other : {A : Type 0} (f : ℕ → A) (k : ℕ) (x : A) (j : ℕ) → (j ≡ k → ⊥) → put f k x j ≡ f j
unfolding put
put_other f k x j h = rw (ne_eqb j k h, put)

pub tri : {A : Type 0} (j k : ℕ) → (j < k → A) → (j ≡ k → A) → (k < j → A) → A
tri {A} j k a b c = go (ltb j k) refl (ℕ_discrete j k)
  where
    go : (t : Bool) → ltb j k ≡ t → Dec (j ≡ k) → A
    go true e d = a (ltb-true j k e)
    go false e (yes q) = b q
    go false e (no q) = c (omega (arith, ltb-false j k e))
