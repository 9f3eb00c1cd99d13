use Rattle.walk.proofs.SetValues.{nested_next, nested_none}
use Prim.Native.Nat.{◌-◌}
use mathlib.Core.Path.{◌≡◌, sym}
use borrow.Author.Tests.{eq-eqb, ne_eqb}
use native.Mathlib.Omega.{arith}
use Rattle.walk.proofs.sets.nested_in.Goals as goal

pub returns-then-not-sets-inner : goal.returns-then-not-sets-inner
returns-then-not-sets-inner c =
    λ L a. (rw (
      c.loop-inner.invariant L a,
      nested_next a c.args.j c.loop-inner.inner (omega (arith, c.loop-inner-test.true)),
      c.if-not-sets-inner.true,
    ))

pub returns-then-inner-j : goal.returns-then-inner-j
returns-then-inner-j c =
    λ L a. (rw (
      c.loop-inner.invariant L a,
      nested_next a c.args.j c.loop-inner.inner (omega (arith, c.loop-inner-test.true)),
      c.if-not-sets-inner.false,
      eq-eqb c.args.j (c.loop-inner.inner - 1) (sym c.if-inner-j.true),
    ))

pub loop-inner-preserved : goal.loop-inner-preserved
loop-inner-preserved c =
    λ L a. (rw (
      c.loop-inner.invariant L a,
      nested_next a c.args.j c.loop-inner.inner (omega (arith, c.loop-inner-test.true)),
      c.if-not-sets-inner.false,
      ne_eqb c.args.j (c.loop-inner.inner - 1) (λ e. c.if-inner-j.false (sym e)),
    ))

pub returns : goal.returns
returns c =
    let e : c.loop-inner.inner ≡ 0 = omega (arith, c.loop-inner-test.false) in
    λ L a. (rw (c.loop-inner.invariant L a, e, nested_none L c.args.j))
