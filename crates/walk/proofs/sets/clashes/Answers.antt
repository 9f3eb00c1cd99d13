use Rattle.walk.specs.Layout.{clash}
use Rattle.rules.specs.SearchLaws.{any_hit}
use mathlib.Core.Path.{sym, ◌∙◌}
use Rattle.walk.proofs.sets.clashes.Goals as goal

pub returns-then-clash : goal.returns-then-clash
returns-then-clash c =
    let k = c.args.k in
    λ L a. sym (any_hit (λ i. clash L i k) k c.loop-j.j c.loop-j-test.true (sym (c.clash.ensures L a) ∙ c.if-clash.true))
