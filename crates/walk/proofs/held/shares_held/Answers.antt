use Rattle.walk.proofs.SetValues.{shares_miss, shares_all}
use Rattle.walk.proofs.Plain.{below_next}
use Rattle.walk.specs.Layout.{clash}
use Rattle.rules.specs.Search.{any_below}
use mathlib.Core.Bool.{false}
use mathlib.Core.Path.{◌≡◌, sym, ◌∙◌}
use native.Mathlib.Omega.{arith}
use Prim.Native.Nat.{ℕ}
use Rattle.walk.proofs.held.shares_held.Goals as goal

pub returns-then-clashes : goal.returns-then-clashes
returns-then-clashes c =
    λ L a. sym (shares_miss a c.loop-k.k (sym (c.clashes.ensures L a) ∙ c.if-clashes.true))

pub loop-k-preserved : goal.loop-k-preserved
loop-k-preserved c =
    record {
      apart =
          λ L a. below_next (λ (j : ℕ). any_below (λ i. clash L i j) j ≡ false) (c.loop-k.invariant.apart L a)
          (sym (c.clashes.ensures L a) ∙ c.if-clashes.false);
    }

pub returns : goal.returns
returns c = λ L a. sym (shares_all a (λ j l. c.loop-k.invariant.apart L a j (omega (arith, l))))
