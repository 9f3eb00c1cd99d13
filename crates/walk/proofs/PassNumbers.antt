-- Laws of the numbers of the passes: what is put for a set changes that set alone.
use Prim.Native.Nat.{ℕ, ◌+◌, ◌*◌, ◌<◌}
use native.Mathlib.Omega.{arith}
use native.Mathlib.Decide.{ℕ_discrete}
use mathlib.Core.Path.{◌≡◌, refl, sym, ap, ◌∙◌, fun_ext}
use mathlib.Core.List.{List}
use Rattle.std.specs.Bool.{then_some}
use Rattle.std.specs.Prelude.{Option, None, Some, ◌==◌, if◌then◌else◌}
use mathlib.Core.Bool.{Bool, true, false}
use lib.ListN.{length, get_or, set, length-set, replicate}
use lib.Seq.{get_or-set_same, get_or-set_other}
use borrow.Author.Tests.{eq-eqb, ne_eqb}
use Rattle.walk.specs.Passes.{Rest, more, put, goto_with}
use Rattle.walk.specs.State.{left_of, left_at, with_numbers, with_left, place_of, memory_of}
use Rattle.walk.specs.declared.passes.Further.{Further}
use Rattle.walk.specs.declared.passes.Further.TheVariants.{Endless, More}
use Rattle.walk.proofs.Readings.{zeros}

-- three numbers are put at places 4 k, 4 k + 1 and 4 k + 2
module _ (w : List ℕ) (room : length w ≡ 16) (k : ℕ) (low : k < 4) (x y z : ℕ) where
  elsewhere : (i : ℕ) → (i ≡ 4 * k → ⊥) → (i ≡ 4 * k + 1 → ⊥) → (i ≡ 4 * k + 2 → ⊥) → get_or (with_numbers w k x y z) i 0 ≡ get_or w i 0
  elsewhere i a b c =
      get_or-set_other (set (set w (4 * k) x) (4 * k + 1) y) (4 * k + 2) i z 0 c
      ∙ get_or-set_other (set w (4 * k) x) (4 * k + 1) i y 0 b
      ∙ get_or-set_other w (4 * k) i x 0 a

  first : get_or (with_numbers w k x y z) (4 * k) 0 ≡ x
  first =
      get_or-set_other (set (set w (4 * k) x) (4 * k + 1) y) (4 * k + 2) (4 * k) z 0 (λ e. omega (arith, e))
      ∙ get_or-set_other (set w (4 * k) x) (4 * k + 1) (4 * k) y 0 (λ e. omega (arith, e))
      ∙ get_or-set_same w (4 * k) x 0 (omega (arith, room, low))

  second : get_or (with_numbers w k x y z) (4 * k + 1) 0 ≡ y
  second =
      get_or-set_other (set (set w (4 * k) x) (4 * k + 1) y) (4 * k + 2) (4 * k + 1) z 0 (λ e. omega (arith, e))
      ∙ get_or-set_same (set w (4 * k) x) (4 * k + 1) y 0 (omega (arith, room, low, length-set w (4 * k) x))

  third : get_or (with_numbers w k x y z) (4 * k + 2) 0 ≡ z
  third =
      get_or-set_same (set (set w (4 * k) x) (4 * k + 1) y) (4 * k + 2) z 0
      (omega (arith, room, low, length-set w (4 * k) x, length-set (set w (4 * k) x) (4 * k + 1) y))

  numbers_other : (j : ℕ) → (j ≡ k → ⊥) → left_at (with_numbers w k x y z) j ≡ left_at w j
  numbers_other j h =
      let a : get_or (with_numbers w k x y z) (4 * j) 0 ≡ get_or w (4 * j) 0 =
      elsewhere (4 * j) (λ e. h (omega (arith, e))) (λ e. omega (arith, e)) (λ e. omega (arith, e)) in
      let b : get_or (with_numbers w k x y z) (4 * j + 1) 0 ≡ get_or w (4 * j + 1) 0 =
      elsewhere (4 * j + 1) (λ e. omega (arith, e)) (λ e. h (omega (arith, e))) (λ e. omega (arith, e)) in
      let c : get_or (with_numbers w k x y z) (4 * j + 2) 0 ≡ get_or w (4 * j + 2) 0 =
      elsewhere (4 * j + 2) (λ e. omega (arith, e)) (λ e. omega (arith, e)) (λ e. h (omega (arith, e))) in
      rw (a, b, c)

  numbers_memory : memory_of (with_numbers w k x y z) ≡ memory_of w
  numbers_memory = fun_ext (λ j. elsewhere (4 * j + 3) (λ e. omega (arith, e)) (λ e. omega (arith, e)) (λ e. omega (arith, e)))

-- what is left is put for set k
module _ (w : List ℕ) (room : length w ≡ 16) (k : ℕ) (low : k < 4) where
  left_put : (v : Option Further) → left_at (with_left w k v) k ≡ v
  left_put None = rw (first w room k low 0 0 0)
  left_put (Some Endless) = rw (first w room k low 1 1 0, second w room k low 1 1 0)
  left_put (Some (More n)) = rw (first w room k low 1 0 n, second w room k low 1 0 n, third w room k low 1 0 n)

  left_other : (v : Option Further) (j : ℕ) → (j ≡ k → ⊥) → left_at (with_left w k v) j ≡ left_at w j
  left_other None = numbers_other w room k low 0 0 0
  left_other (Some Endless) = numbers_other w room k low 1 1 0
  left_other (Some (More n)) = numbers_other w room k low 1 0 n

  pub memory_kept : (v : Option Further) → memory_of (with_left w k v) ≡ memory_of w
  memory_kept None = numbers_memory w room k low 0 0 0
  memory_kept (Some Endless) = numbers_memory w room k low 1 1 0
  memory_kept (Some (More n)) = numbers_memory w room k low 1 0 n

  pub place_put : (v : Option Further) (o o' : ℕ) → place_of o (with_left w k v) ≡ goto_with (place_of o' w) o k (left_of v)
  unfolding put
  place_put v o o' = ap (λ (l : ℕ → Option Rest). record { order = o; left = l }) (fun_ext (λ j. go j (ℕ_discrete j k)))
    where
      go : (j : ℕ) → Dec (j ≡ k) → left_of (left_at (with_left w k v) j) ≡ put (place_of o' w).left k (left_of v) j
      go j (yes q) = rw (q, eq-eqb k k refl, put) (ap left_of (left_put v))
      go j (no h) = rw (ne_eqb j k h, put) (ap left_of (left_other v j h))

-- one is put at place 4 k + 2, how many more
more_of : (p q : Bool) (z m n : ℕ) → then_some p (if q then Endless else More z) ≡ Some (More m) → then_some p (if q then Endless else More n) ≡ Some (More n)
more_of true true z m n e = absurd (cc)
more_of true false z m n e = refl
more_of false q z m n e = absurd (cc)

pub memory_more : (w : List ℕ) (k n : ℕ) → memory_of (set w (4 * k + 2) n) ≡ memory_of w
memory_more w k n = fun_ext (λ j. get_or-set_other w (4 * k + 2) (4 * j + 3) n 0 (λ e. omega (arith, e)))

module _ (w : List ℕ) (room : length w ≡ 16) (k : ℕ) (low : k < 4) (m n : ℕ) (here : left_at w k ≡ Some (More m)) where
  left_more : left_at (set w (4 * k + 2) n) k ≡ Some (More n)
  left_more =
      let a : get_or (set w (4 * k + 2) n) (4 * k) 0 ≡ get_or w (4 * k) 0 = get_or-set_other w (4 * k + 2) (4 * k) n 0 (λ e. omega (arith, e)) in
      let b : get_or (set w (4 * k + 2) n) (4 * k + 1) 0 ≡ get_or w (4 * k + 1) 0 = get_or-set_other w (4 * k + 2) (4 * k + 1) n 0 (λ e. omega (arith, e)) in
      let c : get_or (set w (4 * k + 2) n) (4 * k + 2) 0 ≡ n = get_or-set_same w (4 * k + 2) n 0 (omega (arith, room, low)) in
      rw (a, b, c) (more_of (get_or w (4 * k) 0 == 1) (get_or w (4 * k + 1) 0 == 1) (get_or w (4 * k + 2) 0) m n here)

  more_other : (j : ℕ) → (j ≡ k → ⊥) → left_at (set w (4 * k + 2) n) j ≡ left_at w j
  more_other j h =
      let a : get_or (set w (4 * k + 2) n) (4 * j) 0 ≡ get_or w (4 * j) 0 = get_or-set_other w (4 * k + 2) (4 * j) n 0 (λ e. omega (arith, e)) in
      let b : get_or (set w (4 * k + 2) n) (4 * j + 1) 0 ≡ get_or w (4 * j + 1) 0 = get_or-set_other w (4 * k + 2) (4 * j + 1) n 0 (λ e. omega (arith, e)) in
      let c : get_or (set w (4 * k + 2) n) (4 * j + 2) 0 ≡ get_or w (4 * j + 2) 0 =
      get_or-set_other w (4 * k + 2) (4 * j + 2) n 0 (λ e. h (omega (arith, e))) in
      rw (a, b, c)

  pub place_more : (o : ℕ) → place_of o (set w (4 * k + 2) n) ≡ goto_with (place_of o w) o k (Some (more n))
  unfolding put
  place_more o = ap (λ (l : ℕ → Option Rest). record { order = o; left = l }) (fun_ext (λ j. go j (ℕ_discrete j k)))
    where
      go : (j : ℕ) → Dec (j ≡ k) → left_of (left_at (set w (4 * k + 2) n) j) ≡ put (place_of o w).left k (Some (more n)) j
      go j (yes q) = rw (q, eq-eqb k k refl, put) (ap left_of left_more)
      go j (no h) = rw (ne_eqb j k h, put) (ap left_of (more_other j h))

-- what was left of it is put for set k
pub put_there : (f : ℕ → Option Rest) (k : ℕ) (x : Option Rest) → f k ≡ x → put f k x ≡ f
unfolding put
put_there f k x e = fun_ext (λ j. go j (ℕ_discrete j k))
  where
    go : (j : ℕ) → Dec (j ≡ k) → put f k x j ≡ f j
    go j (yes q) = rw (q, eq-eqb k k refl, put) (sym e)
    go j (no h) = rw (ne_eqb j k h, put)

-- numbers that begin as `[0; n]`: no set has a present pass, and no countField a reading
pub zeros_left : (n k : ℕ) → left_of (left_at (replicate {A = ℕ} n 0) k) ≡ None
zeros_left n k = rw (zeros n (4 * k))

pub zeros_latest : (n k : ℕ) → memory_of (replicate {A = ℕ} n 0) k ≡ 0
zeros_latest n k = zeros n (4 * k + 3)
