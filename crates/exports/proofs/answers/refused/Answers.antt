use Rattle.std.specs.Prelude.{slice_set}
use Rattle.exports.specs.Answers.{filled}
use Prim.Native.Nat.{ℕ, zero, suc}
use lib.ListN.{replicate}
use mathlib.Core.List.{List, [], ◌∷◌}
use mathlib.Core.Path.{◌≡◌, refl, ap}
use Rattle.exports.proofs.answers.refused.Goals as goal

zeros : (n : ℕ) → replicate n 0 ≡ filled n []
zeros zero = refl
zeros (suc n) = ap (λ (x : List ℕ). 0 ∷ x) (zeros n)

first : (n d : ℕ) → slice_set (replicate n 0) 0 d ≡ filled n (d ∷ [])
first zero d = refl
first (suc n) d = ap (λ (x : List ℕ). d ∷ x) (zeros n)

pub returns-in-Some : goal.returns-in-Some
returns-in-Some g c = first g.row.N c.args.detail
