-- How an exported call hands over its answer: the number is returned, the values stand in `answer`.
use Rattle.std.specs.Prelude.{ℕ, zero, suc, List, [], ◌∷◌}

-- the values, and zeros behind them: so many numbers
abbrev pub filled : ℕ → List ℕ → List ℕ
filled zero values = []
filled (suc n) [] = 0 ∷ filled n []
filled (suc n) (v ∷ values) = v ∷ filled n values
