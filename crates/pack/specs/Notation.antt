-- Notation that the definitions share, so that they read like the paper: tests on numbers and bytes, and lists made by index.
use Rattle.std.specs.Prelude.{ℕ, zero, suc, Bool, true, false, ◌&&◌, List, [], ◌∷◌, ◌++◌, ltb, leb, ◌==◌}

infix 50 ◌<ᵇ◌
infix 50 ◌≤ᵇ◌
infix 50 ◌≐◌
abbrev pub ◌<ᵇ◌ : ℕ → ℕ → Bool
a <ᵇ b = ltb a b

abbrev pub ◌≤ᵇ◌ : ℕ → ℕ → Bool
a ≤ᵇ b = leb a b

-- the same bytes
abbrev pub ◌≐◌ : List ℕ → List ℕ → Bool
[] ≐ [] = true
[] ≐ (b ∷ bs) = false
(a ∷ as') ≐ [] = false
(a ∷ as') ≐ (b ∷ bs) = (a == b) && (as' ≐ bs)

-- f 0, f 1, .. f (n - 1), one after the other
abbrev pub concat_below : {A : Type 0} → (ℕ → List A) → ℕ → List A
concat_below f zero = []
concat_below f (suc n) = concat_below f n ++ f n

-- the list of f 0, f 1, .. f (n - 1)
abbrev pub tab : {A : Type 0} → (ℕ → A) → ℕ → List A
tab f n = concat_below (λ i. f i ∷ []) n
