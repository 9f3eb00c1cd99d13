-- Laws of lists made by index.
use Prim.Native.Nat.{ℕ, zero, suc, ◌+◌, ◌≤◌, ◌<◌}
use native.Mathlib.Omega.{arith}
use native.Mathlib.Decide.{dec_lt}
use mathlib.Core.Path.{◌≡◌, refl, ◌∙◌}
use mathlib.Core.List.{List, [], ◌∷◌, ◌++◌}
use lib.ListN.{length, get_or, length-append, get_or-append}
use lib.Seq.{get_or-append-add}
use Rattle.pack.specs.Notation.{concat_below, tab}

module _ {A : Type 0} where
  pub length_tab : (f : ℕ → A) (n : ℕ) → length (tab f n) ≡ n
  length_tab f zero = refl
  length_tab f (suc n) = length-append (tab f n) (f n ∷ []) ∙ (let k = length_tab f n in omega arith)

  pub length_concat_below : (f : ℕ → List A) (n g : ℕ) → g < n → length (concat_below f g) + length (f g) ≤ length (concat_below f n)
  length_concat_below f zero g h = absurd (omega arith)
  length_concat_below f (suc n) g h = go (dec_lt g n) (length_concat_below f n g)
    where
      e : length (concat_below f n ++ f n) ≡ length (concat_below f n) + length (f n)
      e = length-append (concat_below f n) (f n)

      go : Dec (g < n) → (g < n → length (concat_below f g) + length (f g) ≤ length (concat_below f n))
          → length (concat_below f g) + length (f g) ≤ length (concat_below f n ++ f n)
      go (yes p) ih = omega (arith, e, ih p)
      go (no q) ih = let r : g ≡ n = omega arith in rw r (omega (arith, e))

  -- part g of n parts stands behind the parts before it
  pub getD_concat_below : (f : ℕ → List A) (d : A) (n g j : ℕ) → g < n → j < length (f g)
      → get_or (concat_below f n) (length (concat_below f g) + j) d ≡ get_or (f g) j d
  getD_concat_below f d zero g j h l = absurd (omega arith)
  getD_concat_below f d (suc n) g j h l = go (dec_lt g n) (getD_concat_below f d n g j)
    where
      go : Dec (g < n) → (g < n → j < length (f g) → get_or (concat_below f n) (length (concat_below f g) + j) d ≡ get_or (f g) j d)
          → get_or (concat_below f n ++ f n) (length (concat_below f g) + j) d ≡ get_or (f g) j d
      go (yes p) ih = get_or-append (concat_below f n) (f n) d (length (concat_below f g) + j) (omega (arith, length_concat_below f n g p)) ∙ ih p l
      go (no q) ih = let e : g ≡ n = omega arith in rw e (get_or-append-add (concat_below f n) (f n) j d)

  pub getD_tab : (f : ℕ → A) (d : A) (n i : ℕ) → i < n → get_or (tab f n) i d ≡ f i
  getD_tab f d n i h =
      let e : length (tab f i) + 0 ≡ i = omega (arith, length_tab f i) in
      rw e at (getD_concat_below (λ k. f k ∷ []) d n i 0 h (omega arith))
