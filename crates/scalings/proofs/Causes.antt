-- A cause in a list of findings, and in its parts.
use Rattle.std.specs.Prelude.{◌==◌}
use Prim.Native.Nat.{ℕ, zero, suc, ◌<◌}
use native.Mathlib.Omega.{arith}
use mathlib.Core.Bool.{Bool, true, false, ◌&&◌, ◌||◌, false≢true}
use mathlib.Core.List.{List, [], ◌∷◌, ◌++◌}
use mathlib.Core.Path.{◌≡◌, refl, sym, ap, ◌∙◌}
use Rattle.pack.specs.Notation.{concat_below}
use Rattle.rules.specs.declared.Finding.{Finding}
use Rattle.rules.specs.Findings.{only}
use Rattle.rules.specs.SearchLaws.{below_suc}
use Rattle.scalings.specs.Scalings.{has_cause}

or_left : (a b : Bool) → (a || b) ≡ false → a ≡ false
or_left true b e = e
or_left false b e = refl

or_right : (a b : Bool) → (a || b) ≡ false → b ≡ false
or_right true b e = absurd (false≢true (sym e))
or_right false b e = e

-- a finding of the rule and the cause is one of the rule
pub cause_only : (rule cause : ℕ) (fs : List Finding) → has_cause rule cause fs ≡ has_cause rule cause (only rule fs)
cause_only rule cause [] = refl
cause_only rule cause (f ∷ fs) = go (f.rule == rule) refl (cause_only rule cause fs)
  where
    go : (b : Bool) → (f.rule == rule) ≡ b → has_cause rule cause fs ≡ has_cause rule cause (only rule fs)
        → has_cause rule cause (f ∷ fs) ≡ has_cause rule cause (only rule (f ∷ fs))
    go true e rec = rw (e, rec) (rw e)
    go false e rec = rw (e, rec)

-- g has the cause at an index below n
pub record Met (rule cause : ℕ) (g : ℕ → List Finding) (n : ℕ) : Type 0 where
  pub index : ℕ
  pub below : index < n
  pub has : has_cause rule cause (g index) ≡ true

module _ (rule cause : ℕ) where
  pub cause_append : (xs ys : List Finding) → has_cause rule cause (xs ++ ys) ≡ (has_cause rule cause xs || has_cause rule cause ys)
  cause_append [] ys = refl
  cause_append (x ∷ xs) ys = go ((x.rule == rule) && (x.cause == cause)) (cause_append xs ys)
    where
      go : (b : Bool) → has_cause rule cause (xs ++ ys) ≡ (has_cause rule cause xs || has_cause rule cause ys)
          → (b || has_cause rule cause (xs ++ ys)) ≡ (b || has_cause rule cause xs || has_cause rule cause ys)
      go true rec = refl
      go false rec = rec

  -- none in any: none in all
  pub none_below : (g : ℕ → List Finding) → ((k : ℕ) → has_cause rule cause (g k) ≡ false) → (n : ℕ) → has_cause rule cause (concat_below g n) ≡ false
  none_below g h zero = refl
  none_below g h (suc n) = cause_append (concat_below g n) (g n) ∙ rw (none_below g h n, h n)

  -- none in all: none in any
  pub below_none : (g : ℕ → List Finding) (n : ℕ) → has_cause rule cause (concat_below g n) ≡ false → (k : ℕ) → k < n → has_cause rule cause (g k) ≡ false
  below_none g zero e k l = absurd (omega arith)
  below_none g (suc n) e k l =
      let x = sym (cause_append (concat_below g n) (g n)) ∙ e in
      let last = or_right (has_cause rule cause (concat_below g n)) (has_cause rule cause (g n)) x in
      below_suc k n l (below_none g n (or_left _ _ x) k) (λ q. ap (λ (k : ℕ). has_cause rule cause (g k)) q ∙ last)

  pub met_below : (g : ℕ → List Finding) (n : ℕ) → has_cause rule cause (concat_below g n) ≡ true → Met rule cause g n
  met_below g zero e = absurd (false≢true e)
  met_below g (suc n) e =
      go (has_cause rule cause (concat_below g n)) refl (sym (cause_append (concat_below g n) (g n)) ∙ e) (met_below g n)
    where
      go : (b : Bool) → has_cause rule cause (concat_below g n) ≡ b → (has_cause rule cause (concat_below g n) || has_cause rule cause (g n)) ≡ true
          → (has_cause rule cause (concat_below g n) ≡ true → Met rule cause g n) → Met rule cause g (suc n)
      go true u w rec = let m = rec u in record { index = m.index; below = omega (arith, m.below); has = m.has }
      go false u w rec = record { index = n; below = omega arith; has = rw u at w }
