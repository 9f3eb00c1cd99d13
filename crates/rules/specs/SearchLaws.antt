-- Searches among the indexes below n: a loop's turn at k + 1, what leaving early says, and what an answer says; a law
-- for each kind of search.
use Rattle.std.specs.Bool.{then_some}
use Rattle.std.specs.Prelude.{ℕ, zero, suc, ◌+◌, ◌<◌, Bool, true, false, ◌&&◌, ◌||◌, List, [], ◌++◌, ◌≡◌, refl, if◌then◌else◌}
use Rattle.std.proofs.Math.Decide.{ℕ_discrete}
use Rattle.std.proofs.Common.{add-one, arith, append-nil, sym, ap, ◌∙◌}
use Rattle.std.proofs.lemmas.Bool.{false≢true}
use Rattle.std.specs.Prelude.{Option, None, Some}
use Rattle.std.proofs.lemmas.Option.{none-some, same_Some}
use Rattle.pack.specs.Notation.{concat_below}
use Rattle.std.specs.Option.{option_or}
use Rattle.rules.specs.Search.{any_below, every_below, first_below, latest_below, count_below, sum_below, larger, smaller, max_below}
use Rattle.rules.specs.Search.{min_below, lower_key, least_below, next_rank, ranked}

-- ---- a turn

pub concat_turn : {A : Type 0} (f : ℕ → List A) (k : ℕ) → concat_below f (k + 1) ≡ concat_below f k ++ f k
concat_turn f k = rw (add-one k)

pub any_turn : (p : ℕ → Bool) (k : ℕ) → any_below p (k + 1) ≡ (any_below p k || p k)
any_turn p k = rw (add-one k)

pub every_turn : (p : ℕ → Bool) (k : ℕ) → every_below p (k + 1) ≡ (every_below p k && p k)
every_turn p k = rw (add-one k)

pub first_turn : (p : ℕ → Bool) (k : ℕ) → first_below p (k + 1) ≡ option_or (first_below p k) (then_some (p k) k)
first_turn p k = rw (add-one k)

pub latest_turn : (p : ℕ → Bool) (k : ℕ) → latest_below p (k + 1) ≡ option_or (then_some (p k) k) (latest_below p k)
latest_turn p k = rw (add-one k)

pub count_turn : (p : ℕ → Bool) (k : ℕ) → count_below p (k + 1) ≡ (if p k then count_below p k + 1 else count_below p k)
count_turn p k = rw (add-one k)

pub sum_turn : (f : ℕ → ℕ) (k : ℕ) → sum_below f (k + 1) ≡ sum_below f k + f k
sum_turn f k = rw (add-one k)

pub max_turn : (f : ℕ → Option ℕ) (k : ℕ) → max_below f (k + 1) ≡ larger (max_below f k) (f k)
max_turn f k = rw (add-one k)

pub min_turn : (f : ℕ → Option ℕ) (k : ℕ) → min_below f (k + 1) ≡ smaller (min_below f k) (f k)
min_turn f k = rw (add-one k)

pub least_turn : (key : ℕ → ℕ) (p : ℕ → Bool) (k : ℕ)
    → least_below key p (k + 1) ≡ (if p k then Some (lower_key key (least_below key p k) k) else least_below key p k)
least_turn key p k = rw (add-one k)

pub ranked_turn : (least : ℕ → Option ℕ) (r : ℕ) → ranked least (r + 1) ≡ next_rank least (ranked least r)
ranked_turn least r = rw (add-one r)

-- ---- leaving early

pub below_suc : {A : Type 0} (k n : ℕ) → k < suc n → (k < n → A) → (k ≡ n → A) → A
below_suc {A} k n h low top = go (ℕ_discrete k n)
  where
    go : Dec (k ≡ n) → A
    go (yes e) = top e
    go (no e) = low (omega arith)

pub or_right : (a b : Bool) → b ≡ true → (a || b) ≡ true
or_right true b e = refl
or_right false b e = e

pub any_hit : (p : ℕ → Bool) (n k : ℕ) → k < n → p k ≡ true → any_below p n ≡ true
any_hit p zero k h e = absurd (omega arith)
any_hit p (suc n) k h e =
    below_suc k n h (λ l. rw (any_hit p n k l e)) (λ q. or_right (any_below p n) (p n) (ap p (sym q) ∙ e))

and_right : (a b : Bool) → b ≡ false → (a && b) ≡ false
and_right true b e = e
and_right false b e = refl

pub every_missed : (p : ℕ → Bool) (n k : ℕ) → k < n → p k ≡ false → every_below p n ≡ false
every_missed p zero k h e = absurd (omega arith)
every_missed p (suc n) k h e =
    below_suc k n h (λ l. rw (every_missed p n k l e)) (λ q. and_right (every_below p n) (p n) (ap p (sym q) ∙ e))

pub any_missed : (p : ℕ → Bool) (n : ℕ) → any_below p n ≡ false → (k : ℕ) → k < n → p k ≡ false
any_missed p zero e k h = absurd (omega arith)
any_missed p (suc n) e k h = go (any_below p n) (p n) refl refl e (any_missed p n)
  where
    go : (a b : Bool) → any_below p n ≡ a → p n ≡ b → (a || b) ≡ false → (any_below p n ≡ false → (k : ℕ) → k < n → p k ≡ false) → p k ≡ false
    go true b u v w rec = absurd (false≢true (sym w))
    go false b u v w rec = below_suc k n h (rec u k) (λ q. ap p q ∙ v ∙ w)

-- all before k missed, and k hit
pub first_hit : (p : ℕ → Bool) (n k : ℕ) → k < n → first_below p k ≡ None → p k ≡ true → first_below p n ≡ Some k
first_hit p zero k h m e = absurd (omega arith)
first_hit p (suc n) k h m e = below_suc k n h (λ l. rw (first_hit p n k l m e)) (λ q. let u = rw q at m in let v = rw q at e in rw (u, v, q))

-- ---- what an answer says

pub first_is : (p : ℕ → Bool) (n k : ℕ) → first_below p n ≡ Some k → (k < n) × (p k ≡ true)
first_is p zero k e = absurd (none-some k e)
first_is p (suc n) k e = go (first_below p n) refl (p n) refl e (first_is p n k)
  where
    go : (f : Option ℕ) → first_below p n ≡ f → (b : Bool) → p n ≡ b → option_or f (then_some b n) ≡ Some k
        → (first_below p n ≡ Some k → (k < n) × (p k ≡ true)) → (k < suc n) × (p k ≡ true)
    go (Some j) u b v w rec = let r = rec (u ∙ w) in (omega arith, r.1)
    go None u true v w rec = let q : n ≡ k = same_Some n k w in (omega arith, ap p (sym q) ∙ v)
    go None u false v w rec = absurd (none-some k w)

pub first_misses : (p : ℕ → Bool) (n : ℕ) → first_below p n ≡ None → (k : ℕ) → k < n → p k ≡ false
first_misses p zero e k h = absurd (omega arith)
first_misses p (suc n) e k h = go (first_below p n) refl (p n) refl e (first_misses p n)
  where
    go : (f : Option ℕ) → first_below p n ≡ f → (b : Bool) → p n ≡ b → option_or f (then_some b n) ≡ None
        → (first_below p n ≡ None → (k : ℕ) → k < n → p k ≡ false) → p k ≡ false
    go (Some j) u b v w rec = absurd (none-some j (sym w))
    go None u true v w rec = absurd (none-some n (sym w))
    go None u false v w rec = below_suc k n h (rec u k) (λ q. ap p q ∙ v)

pub latest_is : (p : ℕ → Bool) (n k : ℕ) → latest_below p n ≡ Some k → (k < n) × (p k ≡ true)
latest_is p zero k e = absurd (none-some k e)
latest_is p (suc n) k e = go (p n) refl e (latest_is p n k)
  where
    go : (b : Bool) → p n ≡ b → option_or (then_some b n) (latest_below p n) ≡ Some k
        → (latest_below p n ≡ Some k → (k < n) × (p k ≡ true)) → (k < suc n) × (p k ≡ true)
    go true v w rec = let q : n ≡ k = same_Some n k w in (omega arith, ap p (sym q) ∙ v)
    go false v w rec = let r = rec w in (omega arith, r.1)

pub latest_none : (p : ℕ → Bool) (n : ℕ) → ((k : ℕ) → p k ≡ false) → latest_below p n ≡ None
latest_none p zero h = refl
latest_none p (suc n) h = rw (h n) (latest_none p n h)

-- ---- nothing from any

pub concat_none : {A : Type 0} (f : ℕ → List A) (n : ℕ) → ((k : ℕ) → k < n → f k ≡ []) → concat_below f n ≡ []
concat_none f zero h = refl
concat_none f (suc n) h = rw (concat_none f n (λ k l. h k (omega arith)), h n (omega arith))

-- ---- ranks: once they have ended, nothing follows

pub ranked_ends : (least : ℕ → Option ℕ) (r d : ℕ) → ranked least r ≡ None → ranked least (r + d) ≡ None
ranked_ends least r zero e = let q : r + 0 ≡ r = omega arith in rw q e
ranked_ends least r (suc d) e =
    let q : r + suc d ≡ suc (r + d) = omega arith in
    rw (q, ranked_ends least r d e)

pub concat_ends : {A : Type 0} (f : ℕ → List A) (r d : ℕ) → ((k : ℕ) → f (r + k) ≡ []) → concat_below f (r + d) ≡ concat_below f r
concat_ends f r zero h = let q : r + 0 ≡ r = omega arith in rw q
concat_ends f r (suc d) h =
    let q : r + suc d ≡ suc (r + d) = omega arith in
    rw (q, h d, append-nil (concat_below f (r + d))) (concat_ends f r d h)
