-- Version 1 has two places for sets (`two_sets`, pack/proofs/Sets). Of two places the rules are what they are over set 1 and set 2 by name.
use Rattle.std.specs.Bool.{then_some}
use Rattle.std.specs.Prelude.{◌==◌, if◌then◌else◌}
use Prim.Native.Nat.{ℕ, ◌+◌}
use mathlib.Core.Bool.{Bool, true, false, not, ◌&&◌, ◌||◌}
use mathlib.Core.List.{[], ◌∷◌, ◌++◌}
use Rattle.std.specs.Prelude.{Option, None}
use mathlib.Core.Path.{◌≡◌, refl}
use lib.ListN.{length}
use Rattle.pack.specs.Value.{Repeating, Pgn, field_at}
use Rattle.std.specs.Option.{option_or}
use Rattle.rules.specs.Search.{any_below}
use Rattle.rules.specs.Repeating.{check_set, check_repeating}
use Rattle.rules.specs.Continues.{holds_order, place_number, set_of}
use Rattle.rules.specs.TrailingZero.{starts_behind, fixed}

module _ (p : Pgn) (a b : Option Repeating) (two : p.sets ≡ a ∷ b ∷ []) where
  -- R05: of two places it is set 1, which nothing encloses, then set 2 beside set 1
  pub repeating_of_two : (t i : ℕ)
      → check_repeating t i p ≡ check_set t i 1 (length p.fields) None a ++ check_set t i 2 (length p.fields) a b
  unfolding check_repeating
  repeating_of_two t i = rw two

  -- R43: of two places it is "if holds_order set 2 then 2 else if holds_order set 1 then 1 else 0"
  pub set_of_two : (k : ℕ) → set_of p k ≡ (if holds_order b (k + 1) then 2 else (if holds_order a (k + 1) then 1 else 0))
  unfolding set_of
  set_of_two k = rw two (go (holds_order b (k + 1)) (holds_order a (k + 1)))
    where
      go : (y x : Bool) → place_number (option_or (then_some y 1) (option_or (then_some x 0) None)) ≡ (if y then 2 else (if x then 1 else 0))
      go true x = refl
      go false true = refl
      go false false = refl

  -- R44: of two places it is "starts_behind set 1 and starts_behind set 2"
  pub fixed_of_two : (j : ℕ)
      → fixed p j
      ≡ (not (any_below (λ k. ((field_at p k).res_bits == 0) || (field_at p k).proprietary) j) && starts_behind a (j + 1) && starts_behind b (j + 1))
  unfolding fixed
  fixed_of_two j =
      rw two
      (go (not (any_below (λ k. ((field_at p k).res_bits == 0) || (field_at p k).proprietary) j)) (starts_behind a (j + 1)) (starts_behind b (j + 1)))
    where
      go : (x y z : Bool) → (x && (true && y && z)) ≡ (x && y && z)
      go true y z = refl
      go false y z = refl
