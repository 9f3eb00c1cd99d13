-- The largest, the smallest and the least by a key: an answer is met with at an index, and a hit gives one.
-- f gives e at an index below n
use Rattle.std.specs.Bool.{then_some}
use Rattle.std.specs.Prelude.{is_some}
use Rattle.std.specs.Prelude.{if◌then◌else◌}
use Prim.Native.Nat.{ℕ, zero, suc, ◌≤◌, ◌<◌, min, max}
use native.Mathlib.Decide.{ℕ_discrete}
use native.Mathlib.Omega.{arith}
use mathlib.Core.Bool.{Bool, true, false, ◌&&◌, false≢true}
use Rattle.std.specs.Prelude.{Option, None, Some}
use Rattle.std.proofs.lemmas.Option.{none-some, same_Some}
use borrow.Author.Tests.{ltb-true, ltb-false}
use mathlib.Core.Path.{◌≡◌, refl, sym, ap, ◌∙◌}
use Rattle.pack.specs.Notation.{◌<ᵇ◌}
use Rattle.rules.specs.Search.{first_below, better, best_below, max_below, min_below, lower_key, least_below}
use Rattle.rules.specs.SearchLaws.{first_misses, below_suc}

pub record Gives (f : ℕ → Option ℕ) (n e : ℕ) : Type 0 where
  pub index : ℕ
  pub below : index < n
  pub is : f index ≡ Some e

wider : (f : ℕ → Option ℕ) (n e : ℕ) → Gives f n e → Gives f (suc n) e
wider f n e g = record { index = g.index; below = omega (arith, g.below); is = g.is }

module _ (over : ℕ → ℕ → Bool) (f : ℕ → Option ℕ) where
  best_is : (n e : ℕ) → best_below over f n ≡ Some e → Gives f n e
  best_is zero e h = absurd (none-some e h)
  best_is (suc n) e h = go (best_below over f n) (f n) refl refl h (best_is n e)
    where
      go : (a b : Option ℕ) → best_below over f n ≡ a → f n ≡ b → better over a b ≡ Some e → (best_below over f n ≡ Some e → Gives f n e)
          → Gives f (suc n) e
      go None b u v w rec = record { index = n; below = omega arith; is = v ∙ w }
      go (Some a) None u v w rec = wider f n e (rec (u ∙ w))
      go (Some a) (Some b) u v w rec = pick (over a b) w
        where
          pick : (c : Bool) → Some (if c then b else a) ≡ Some e → Gives f (suc n) e
          pick true x = record { index = n; below = omega arith; is = v ∙ x }
          pick false x = wider f n e (rec (u ∙ x))

  better_none : (a b : Option ℕ) → better over a b ≡ None → (a ≡ None) × (b ≡ None)
  better_none None b h = (refl, h)
  better_none (Some a) None h = absurd (none-some a (sym h))
  better_none (Some a) (Some b) h = absurd (none-some (if over a b then b else a) (sym h))

  best_none : (n : ℕ) → best_below over f n ≡ None → (k : ℕ) → k < n → f k ≡ None
  best_none zero e k h = absurd (omega arith)
  best_none (suc n) e k h =
      let q = better_none (best_below over f n) (f n) e in
      below_suc k n h (best_none n q.0 k) (λ x. ap f x ∙ q.1)

-- what goes over what, by an order: a is at most b
record Orders (over : ℕ → ℕ → Bool) (AtMost : ℕ → ℕ → Type 0) : Type 0 where
  pub same : (a : ℕ) → AtMost a a
  pub trans : (a b c : ℕ) → AtMost a b → AtMost b c → AtMost a c
  pub goes : (a b : ℕ) → over a b ≡ true → AtMost a b
  pub stays : (a b : ℕ) → over a b ≡ false → AtMost b a

module _ {over : ℕ → ℕ → Bool} {AtMost : ℕ → ℕ → Type 0} (O : Orders over AtMost) (f : ℕ → Option ℕ) where
  better_left : (a : ℕ) (b : Option ℕ) (e : ℕ) → better over (Some a) b ≡ Some e → AtMost a e
  better_left a None e h = rw (← same_Some a e h) (O.same a)
  better_left a (Some b) e h = go (over a b) refl h
    where
      go : (c : Bool) → over a b ≡ c → Some (if c then b else a) ≡ Some e → AtMost a e
      go true u x = rw (← same_Some b e x) (O.goes a b u)
      go false u x = rw (← same_Some a e x) (O.same a)

  better_right : (a : Option ℕ) (b e : ℕ) → better over a (Some b) ≡ Some e → AtMost b e
  better_right None b e h = rw (← same_Some b e h) (O.same b)
  better_right (Some a) b e h = go (over a b) refl h
    where
      go : (c : Bool) → over a b ≡ c → Some (if c then b else a) ≡ Some e → AtMost b e
      go true u x = rw (← same_Some b e x) (O.same b)
      go false u x = rw (← same_Some a e x) (O.stays a b u)

  best_bounds : (n e : ℕ) → best_below over f n ≡ Some e → (k x : ℕ) → k < n → f k ≡ Some x → AtMost x e
  best_bounds zero e h k x l q = absurd (omega arith)
  best_bounds (suc n) e h k x l q =
      below_suc k n l (λ y. go (best_below over f n) refl h y (best_bounds n))
      (λ y. better_right (best_below over f n) x e (ap (better over (best_below over f n)) (sym (ap f (sym y) ∙ q)) ∙ h))
    where
      go : (o : Option ℕ) → best_below over f n ≡ o → better over o (f n) ≡ Some e → k < n
          → ((a : ℕ) → best_below over f n ≡ Some a → (k x : ℕ) → k < n → f k ≡ Some x → AtMost x a) → AtMost x e
      go None u v y rec = absurd (none-some x (sym (best_none over f n u k y) ∙ q))
      go (Some a) u v y rec = O.trans x a e (rec a u k x y q) (better_left a (f n) e v)

-- the library's larger and smaller one
pub max_is_larger : (a b : ℕ) → max a b ≡ (if a <ᵇ b then b else a)
max_is_larger a b = go (a <ᵇ b) refl
  where
    go : (c : Bool) → (a <ᵇ b) ≡ c → max a b ≡ (if c then b else a)
    go true u = omega (arith, ltb-true a b u)
    go false u = omega (arith, ltb-false a b u)

pub min_is_smaller : (a b : ℕ) → min a b ≡ (if b <ᵇ a then b else a)
min_is_smaller a b = go (b <ᵇ a) refl
  where
    go : (c : Bool) → (b <ᵇ a) ≡ c → min a b ≡ (if c then b else a)
    go true u = omega (arith, ltb-true b a u)
    go false u = omega (arith, ltb-false b a u)

-- the largest
pub max_is : (f : ℕ → Option ℕ) (n e : ℕ) → max_below f n ≡ Some e → Gives f n e
max_is = best_is (λ a b. a <ᵇ b)

pub max_none : (f : ℕ → Option ℕ) (n : ℕ) → max_below f n ≡ None → (k : ℕ) → k < n → f k ≡ None
max_none = best_none (λ a b. a <ᵇ b)

pub max_bounds : (f : ℕ → Option ℕ) (n e : ℕ) → max_below f n ≡ Some e → (k x : ℕ) → k < n → f k ≡ Some x → x ≤ e
max_bounds =
    best_bounds {over = λ a b. a <ᵇ b} {AtMost = λ a b. a ≤ b}
    (record {
      same = λ a. omega arith;
      trans = λ a b c p q. omega (arith, p, q);
      goes = λ a b u. omega (arith, ltb-true a b u);
      stays = λ a b u. omega (arith, ltb-false a b u);
    })

-- the smallest
pub min_is : (f : ℕ → Option ℕ) (n e : ℕ) → min_below f n ≡ Some e → Gives f n e
min_is = best_is (λ a b. b <ᵇ a)

pub min_none : (f : ℕ → Option ℕ) (n : ℕ) → min_below f n ≡ None → (k : ℕ) → k < n → f k ≡ None
min_none = best_none (λ a b. b <ᵇ a)

pub min_bounds : (f : ℕ → Option ℕ) (n e : ℕ) → min_below f n ≡ Some e → (k x : ℕ) → k < n → f k ≡ Some x → e ≤ x
min_bounds =
    best_bounds {over = λ a b. b <ᵇ a} {AtMost = λ a b. b ≤ a}
    (record {
      same = λ a. omega arith;
      trans = λ a b c p q. omega (arith, p, q);
      goes = λ a b u. omega (arith, ltb-true b a u);
      stays = λ a b u. omega (arith, ltb-false b a u);
    })

pub first_given : (p : ℕ → Bool) (n k : ℕ) → k < n → p k ≡ true → is_some (first_below p n) ≡ true
first_given p n k h e = go (first_below p n) refl
  where
    go : (o : Option ℕ) → first_below p n ≡ o → is_some o ≡ true
    go None u = absurd (false≢true (sym (first_misses p n u k h) ∙ e))
    go (Some i) u = refl

pub least_given : (key : ℕ → ℕ) (p : ℕ → Bool) (n k : ℕ) → k < n → p k ≡ true → is_some (least_below key p n) ≡ true
least_given key p zero k h e = absurd (omega arith)
least_given key p (suc n) k h e = go (p n) refl (ℕ_discrete k n) (least_given key p n k)
  where
    go : (b : Bool) → p n ≡ b → Dec (k ≡ n) → (k < n → p k ≡ true → is_some (least_below key p n) ≡ true)
        → is_some (if b then Some (lower_key key (least_below key p n) n) else least_below key p n) ≡ true
    go true u d rec = refl
    go false u (yes q) rec = absurd (false≢true (sym u ∙ ap p (sym q) ∙ e))
    go false u (no q) rec = rec (omega arith) e

-- what an `optional` and an `&&` say
pub optional_is : (b : Bool) (x e : ℕ) → then_some b x ≡ Some e → (b ≡ true) × (x ≡ e)
optional_is true x e h = (refl, same_Some x e h)
optional_is false x e h = absurd (none-some e h)

pub and_left : (a b : Bool) → (a && b) ≡ true → a ≡ true
and_left true b h = refl
and_left false b h = h

pub and_right : (a b : Bool) → (a && b) ≡ true → b ≡ true
and_right true b h = h
and_right false b h = absurd (false≢true h)
