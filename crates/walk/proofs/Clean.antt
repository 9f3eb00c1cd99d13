-- An error in one arm of a rule's test: where the report is clean, the test went the other way.
use Rattle.std.specs.Prelude.{if◌then◌else◌}
use mathlib.Core.Path.{◌≡◌, refl}
use mathlib.Core.Bool.{Bool, true, false, false≢true}
use mathlib.Core.List.{List, [], ◌∷◌}
use Rattle.rules.specs.declared.Finding.{Finding}
use Rattle.rules.specs.Clean.{Clean}

pub clean_then : (b : Bool) (xs ys : List Finding) → b ≡ true → Clean (if b then xs else ys) → Clean xs
clean_then true xs ys q e = e
clean_then false xs ys q e = absurd (false≢true q)

pub clean_else : (b : Bool) (f : Finding) (xs : List Finding) → f.severity ≡ 1 → Clean (if b then f ∷ [] else xs) → (b ≡ false) × Clean xs
clean_else false f xs s e = (refl, e)
clean_else true f xs s e = absurd (false≢true (rw s at e))
