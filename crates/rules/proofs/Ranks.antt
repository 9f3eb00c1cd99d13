-- Numbers in rising order, as `ranked` gives them: every one has a rank, each has one only, and there are no more ranks than things that give one.
use Rattle.std.specs.Bool.{then_some}
use Rattle.std.specs.Prelude.{if◌then◌else◌, Option, None, Some}
use Prim.Native.Nat.{ℕ, zero, suc, ◌+◌, ◌≤◌, ◌<◌}
use native.Mathlib.Decide.{ℕ_discrete}
use native.Mathlib.Omega.{arith}
use mathlib.Core.Bool.{Bool, true, false}
use mathlib.Core.List.{List, []}
use Rattle.std.proofs.lemmas.Option.{none-some, same_Some}
use mathlib.Core.Path.{◌≡◌, refl, sym, ap, ◌∙◌}
use borrow.Author.Tests.{ltb-true, ltb-false, lt-ltb, le-ltb, leb-true, le-leb}
use Rattle.pack.specs.Notation.{◌<ᵇ◌, ◌≤ᵇ◌, concat_below}
use Rattle.rules.specs.Search.{sum_below, min_below, next_rank, ranked}
use Rattle.rules.specs.SearchLaws.{ranked_turn, below_suc, concat_ends}
use Rattle.rules.proofs.Extremes.{min_is, min_none, min_bounds, optional_is}

-- ---- what is said of ranks

-- v is the number of a rank below n
pub record HasRank (least : ℕ → Option ℕ) (n v : ℕ) : Type 0 where
  pub rank : ℕ
  pub below : rank < n
  pub is : ranked least rank ≡ Some v

-- The ranks below n give the numbers that are held, all of them, each once and rising; from n on there is none.
pub record Enumerates (least : ℕ → Option ℕ) (Held : ℕ → Type 0) (n : ℕ) : Type 0 where
  pub complete : (v : ℕ) → Held v → HasRank least n v
  pub sound : (r v : ℕ) → ranked least r ≡ Some v → Held v
  pub rising : (q r u v : ℕ) → q < r → ranked least q ≡ Some u → ranked least r ≡ Some v → u < v
  pub ended : (r : ℕ) → n ≤ r → ranked least r ≡ None

-- ---- what makes it so

-- `least b` is the least number from b on that is held; `lower v` counts, among n things, those that give one below v.
pub record Ranking (least : ℕ → Option ℕ) (Held : ℕ → Type 0) (n : ℕ) : Type 0 where
  pub found : (b v : ℕ) → least b ≡ Some v → (b ≤ v) × Held v
  pub lowest : (b v w : ℕ) → least b ≡ Some v → Held w → b ≤ w → v ≤ w
  pub missed : (b w : ℕ) → least b ≡ None → Held w → b ≤ w → ⊥
  pub lower : ℕ → ℕ
  pub few : (v : ℕ) → lower v ≤ n
  pub grows : (v w : ℕ) → v ≤ w → lower v ≤ lower w
  pub counts : (v : ℕ) → Held v → lower v < lower (v + 1)

module _ (least : ℕ → Option ℕ) (Held : ℕ → Type 0) (n : ℕ) (R : Ranking least Held n) where
  ranked_held : (r v : ℕ) → ranked least r ≡ Some v → Held v
  ranked_held zero v e = (R.found 0 v e).1
  ranked_held (suc r) v e = go (ranked least r) e
    where
      go : (o : Option ℕ) → next_rank least o ≡ Some v → Held v
      go None x = absurd (none-some v x)
      go (Some u) x = (R.found (u + 1) v x).1

  -- the number of the next rank is larger
  next_larger : (r u v : ℕ) → ranked least r ≡ Some u → ranked least (suc r) ≡ Some v → u < v
  next_larger r u v e f = omega (arith, (R.found (u + 1) v (sym (ap (next_rank least) e) ∙ f)).0)

  ranks_rise : (r q u v : ℕ) → q < r → ranked least q ≡ Some u → ranked least r ≡ Some v → u < v
  ranks_rise zero q u v h e f = absurd (omega arith)
  ranks_rise (suc r) q u v h e f = go (ranked least r) refl f (ranks_rise r q u) (ℕ_discrete q r)
    where
      go : (o : Option ℕ) → ranked least r ≡ o → next_rank least o ≡ Some v
          → ((w : ℕ) → q < r → ranked least q ≡ Some u → ranked least r ≡ Some w → u < w) → Dec (q ≡ r) → u < v
      go None x y rec d = absurd (none-some v y)
      go (Some w) x y rec (yes s) = next_larger r u v (ap (ranked least) (sym s) ∙ e) f
      go (Some w) x y rec (no s) = omega (arith, rec w (omega arith) e x, next_larger r w v x f)

  -- the number of rank r has r lower ones
  lower_ones : (r v : ℕ) → ranked least r ≡ Some v → r ≤ R.lower v
  lower_ones zero v e = omega arith
  lower_ones (suc r) v e = go (ranked least r) refl e (lower_ones r)
    where
      go : (o : Option ℕ) → ranked least r ≡ o → next_rank least o ≡ Some v → ((u : ℕ) → ranked least r ≡ Some u → r ≤ R.lower u) → suc r ≤ R.lower v
      go None x y rec = absurd (none-some v y)
      go (Some u) x y rec =
          let l = next_larger r u v x e in
          omega (arith, rec u x, R.counts u (ranked_held r u x), R.grows (u + 1) v (omega (arith, l)))

  rank_below : (r v : ℕ) → ranked least r ≡ Some v → r < n
  rank_below r v e = omega (arith, lower_ones r v e, R.counts v (ranked_held r v e), R.few (v + 1))

  ranks_end : (r : ℕ) → n ≤ r → ranked least r ≡ None
  ranks_end r h = go (ranked least r) refl
    where
      go : (o : Option ℕ) → ranked least r ≡ o → o ≡ None
      go None e = refl
      go (Some v) e = absurd (omega (arith, h, rank_below r v e))

  -- from b on, where the search of rank r begins, v is met with
  climb : (v : ℕ) → Held v → (d r b : ℕ) → v < b + d → b ≤ v → ranked least r ≡ least b → HasRank least n v
  climb v held zero r b l h e = absurd (omega arith)
  climb v held (suc d) r b l h e = go (least b) refl (climb v held d (r + 1))
    where
      go : (o : Option ℕ) → least b ≡ o → ((c : ℕ) → v < c + d → c ≤ v → ranked least (r + 1) ≡ least c → HasRank least n v) → HasRank least n v
      go None x rec = absurd (R.missed b v x held h)
      go (Some u) x rec = at (ℕ_discrete u v)
        where
          at : Dec (u ≡ v) → HasRank least n v
          at (yes s) = let is = e ∙ x ∙ ap Some s in record { rank = r; below = rank_below r v is; is = is }
          at (no s) =
              let low = (R.found b u x).0 in
              let up = R.lowest b u v x held h in
              rec (u + 1) (omega (arith, low, l)) (omega (arith, up, s)) (ranked_turn least r ∙ ap (next_rank least) (e ∙ x))

  pub ranks_enumerate : Enumerates least Held n
  ranks_enumerate =
      record {
        complete = λ v held. climb v held (v + 1) 0 0 (omega arith) (omega arith) refl;
        sound = ranked_held;
        rising = λ q r u v. ranks_rise r q u v;
        ended = ranks_end;
      }

-- so what is made of each rank's number is all there below n
pub ranks_enough : {A : Type 0} (least : ℕ → Option ℕ) (Held : ℕ → Type 0) (n : ℕ) → Enumerates least Held n
    → (f : Option ℕ → List A) → f None ≡ [] → (d : ℕ) → concat_below (λ r. f (ranked least r)) (n + d) ≡ concat_below (λ r. f (ranked least r)) n
ranks_enough least Held n E f e d = concat_ends (λ r. f (ranked least r)) n d (λ k. ap f (E.ended (n + k) (omega arith)) ∙ e)

-- ---- one thing, which may give a number

abbrev pub from : (b : ℕ) → Option ℕ → Option ℕ
from b None = None
from b (Some v) = then_some (b ≤ᵇ v) v

from_found : (b v : ℕ) (o : Option ℕ) → from b o ≡ Some v → (b ≤ v) × (o ≡ Some v)
from_found b v None e = absurd (none-some v e)
from_found b v (Some u) e = let q = optional_is (b ≤ᵇ u) u v e in (omega (arith, leb-true b u q.0, q.1), ap Some q.1)

from_missed : (b w : ℕ) (o : Option ℕ) → from b o ≡ None → o ≡ Some w → b ≤ w → ⊥
from_missed b w None e f h = none-some w f
from_missed b w (Some u) e f h =
    let q = same_Some u w f in
    none-some u (sym e ∙ ap (λ (c : Bool). then_some c u) (le-leb b u (omega (arith, q, h))))

abbrev lower_one : (v : ℕ) → Option ℕ → ℕ
lower_one v None = 0
lower_one v (Some u) = if u <ᵇ v then 1 else 0

lower_most : (v : ℕ) (o : Option ℕ) → lower_one v o ≤ 1
lower_most v None = omega arith
lower_most v (Some u) = go (u <ᵇ v)
  where
    go : (c : Bool) → (if c then 1 else 0) ≤ 1
    go true = omega arith
    go false = omega arith

lower_grows : (v w : ℕ) (o : Option ℕ) → v ≤ w → lower_one v o ≤ lower_one w o
lower_grows v w None h = omega arith
lower_grows v w (Some u) h = go (u <ᵇ v) refl (u <ᵇ w) refl
  where
    go : (c : Bool) → (u <ᵇ v) ≡ c → (d : Bool) → (u <ᵇ w) ≡ d → (if c then 1 else 0) ≤ (if d then 1 else 0)
    go false x d y = omega arith
    go true x true y = omega arith
    go true x false y = absurd (omega (arith, ltb-true u v x, ltb-false u w y, h))

lower_counts : (v : ℕ) (o : Option ℕ) → o ≡ Some v → lower_one v o < lower_one (v + 1) o
lower_counts v None e = absurd (none-some v e)
lower_counts v (Some u) e =
    let q = same_Some u v e in
    rw (le-ltb u v (omega (arith, q)), lt-ltb u (v + 1) (omega (arith, q))) (omega arith)

module _ (least : ℕ → Option ℕ) (o : Option ℕ) (is : (b : ℕ) → least b ≡ from b o) where
  of_one : Ranking least (λ v. o ≡ Some v) 1
  of_one =
      record {
        found = λ b v e. from_found b v o (sym (is b) ∙ e);
        lowest = λ b v w e f h. (let q = same_Some v w (sym (from_found b v o (sym (is b) ∙ e)).1 ∙ f) in omega (arith, q));
        missed = λ b w e f h. from_missed b w o (sym (is b) ∙ e) f h;
        lower = λ v. lower_one v o;
        few = λ v. lower_most v o;
        grows = λ v w h. lower_grows v w o h;
        counts = λ v e. lower_counts v o e;
      }

-- ---- the least of what several give

-- one of the n holds it
pub record Among (Held : ℕ → ℕ → Type 0) (n v : ℕ) : Type 0 where
  pub index : ℕ
  pub below : index < n
  pub held : Held index v

sum_most : (f g : ℕ → ℕ) (n : ℕ) → ((i : ℕ) → f i ≤ g i) → sum_below f n ≤ sum_below g n
sum_most f g zero h = omega arith
sum_most f g (suc n) h = omega (arith, sum_most f g n h, h n)

sum_less : (f g : ℕ → ℕ) (n k : ℕ) → ((i : ℕ) → f i ≤ g i) → k < n → f k < g k → sum_below f n < sum_below g n
sum_less f g zero k h l s = absurd (omega arith)
sum_less f g (suc n) k h l s =
    below_suc k n l (λ x. omega (arith, sum_less f g n k h x s, h n)) (λ x. (let t : f n < g n = rw x at s in omega (arith, sum_most f g n h, t)))

sum_ones : (n : ℕ) → sum_below (λ i. 1) n ≡ n
sum_ones zero = refl
sum_ones (suc n) = omega (arith, sum_ones n)

module _ (f : ℕ → ℕ → Option ℕ) (Held : ℕ → ℕ → Type 0) (m : ℕ → ℕ) (R : (i : ℕ) → Ranking (λ b. f b i) (Held i) (m i)) (n : ℕ) where
  all_found : (b v : ℕ) → min_below (f b) n ≡ Some v → (b ≤ v) × Among Held n v
  all_found b v e =
      let g = min_is (f b) n v e in
      let q = (R g.index).found b v g.is in
      (q.0, record { index = g.index; below = g.below; held = q.1 })

  all_lowest : (b v w : ℕ) → min_below (f b) n ≡ Some v → Among Held n w → b ≤ w → v ≤ w
  all_lowest b v w e a h = go (f b a.index) refl
    where
      go : (o : Option ℕ) → f b a.index ≡ o → v ≤ w
      go None x = absurd ((R a.index).missed b w x a.held h)
      go (Some u) x = omega (arith, min_bounds (f b) n v e a.index u a.below x, (R a.index).lowest b u w x a.held h)

  all_counts : (v : ℕ) → Among Held n v → sum_below (λ i. (R i).lower v) n < sum_below (λ i. (R i).lower (v + 1)) n
  all_counts v a =
      sum_less (λ i. (R i).lower v) (λ i. (R i).lower (v + 1)) n a.index (λ i. (R i).grows v (v + 1) (omega arith)) a.below
      ((R a.index).counts v a.held)

  pub of_all : Ranking (λ b. min_below (f b) n) (Among Held n) (sum_below m n)
  of_all =
      record {
        found = all_found;
        lowest = all_lowest;
        missed = λ b w e a h. (R a.index).missed b w (min_none (f b) n e a.index a.below) a.held h;
        lower = λ v. sum_below (λ i. (R i).lower v) n;
        few = λ v. sum_most (λ i. (R i).lower v) m n (λ i. (R i).few v);
        grows = λ v w h. sum_most (λ i. (R i).lower v) (λ i. (R i).lower w) n (λ i. (R i).grows v w h);
        counts = all_counts;
      }

-- things that give one number each, or none
pub of_ones : (f : ℕ → ℕ → Option ℕ) (o : ℕ → Option ℕ) → ((b i : ℕ) → f b i ≡ from b (o i))
    → (n : ℕ) → Ranking (λ b. min_below (f b) n) (Among (λ i v. o i ≡ Some v) n) n
of_ones f o is n = rw (sum_ones n) at (of_all f (λ i v. o i ≡ Some v) (λ i. 1) (λ i. of_one (λ b. f b i) (o i) (λ b. is b i)) n)
