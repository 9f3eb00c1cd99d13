use Rattle.walk.proofs.SetValues.{sets_hold_miss, sets_hold_all}
use mathlib.Core.Path.{sym, ◌∙◌}
use native.Mathlib.Omega.{arith}
use Rattle.walk.proofs.sets.sets_hold.Goals as goal

pub returns-then-not-holds_both : goal.returns-then-not-holds_both
returns-then-not-holds_both c =
    λ L a. sym (sets_hold_miss a c.args.a.0 c.args.b.0 c.loop-k.k
    (sym c.holds_both.ensures ∙ c.if-not-holds_both.true))

pub returns : goal.returns
returns c =
    λ L a. sym (sets_hold_all a c.args.a.0 c.args.b.0 (λ k l. c.loop-k.invariant k (omega (arith, l, c.loop-k-test.false))))
