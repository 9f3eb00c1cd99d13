use Rattle.rules.specs.SearchLaws.{first_is}
use mathlib.Core.Path.{◌∙◌, sym}
use Rattle.rules.proofs.continues.ContinuesFieldRule.at.Goals as goal

pub invariant_of-link : goal.invariant_of-link
invariant_of-link c = record { before = (first_is _ _ _ (sym c.first_with_id.ensures ∙ c.in-Some-first_with_id.is)).0 }
