use Rattle.std.proofs.lemmas.Iterator.{YieldsList-from_slice}
use Rattle.std.proofs.lemmas.Iterator.Search.{all_from_yields_List}
use Rattle.numerals.specs.Numerals.{is_digit, all_digits}
use borrow.Author.Rules.{rules}
use borrow.Author.Tests.{tests}
use mathlib.Core.List.{List, [], ◌∷◌}
use mathlib.Core.Bool.{◌&&◌}
use Rattle.std.specs.List.{list_all}
use mathlib.Core.Path.{◌≡◌, refl, ◌∙◌, ap}
use Prim.Native.Nat.{ℕ}
use Rattle.rules.proofs.reserved_ids.all_digits.Goals as goal

each : (bs : List ℕ) → list_all is_digit bs ≡ all_digits bs
each [] = refl
each (b ∷ bs) = ap (λ r. is_digit b && r) (each bs)

pub returns : goal.returns
returns c =
    all_from_yields_List is_digit _ _ c.all.result c.all.ensures.ran (YieldsList-from_slice c.args.digits.now cc) (λ x b q k. search (rules, tests))
    ∙ each c.args.digits.now
