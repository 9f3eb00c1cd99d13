use Rattle.walk.proofs.SetValues.{count_by, count_none, count_miss, count_all}
use Rattle.walk.proofs.Plain.{below_next}
use Rattle.walk.specs.Layout.{holds, nested_in}
use Rattle.pack.specs.Meaning.{opt_order}
use Rattle.std.specs.Prelude.{None, Some}
use mathlib.Core.Bool.{true, not, ◌||◌}
use mathlib.Core.Path.{◌≡◌, sym, ap, ◌∙◌}
use native.Mathlib.Omega.{arith}
use Prim.Native.Nat.{ℕ}
use Rattle.walk.proofs.held.counter_held.Goals as goal

pub returns-in_default : goal.returns-in_default
returns-in_default c =
    let k = c.args.k in
    λ L a. sym (count_by a k None (ap opt_order c.in_default.is) ∙ count_none a k)

pub returns-then-not-nested_or_apart : goal.returns-then-not-nested_or_apart
returns-then-not-nested_or_apart c =
    let k = c.args.k in
    let o = c.in-Some.counter.0 in
    λ L a. sym (count_by a k (Some o) (ap opt_order c.in-Some.is)
    ∙ count_miss a k o c.loop-j.j (sym (c.nested_or_apart.ensures L a) ∙ c.if-not-nested_or_apart.true))

pub loop-j-preserved : goal.loop-j-preserved
loop-j-preserved c =
    let k = c.args.k in
    let o = c.in-Some.counter.0 in
    record {
      so_far = λ L a. below_next (λ (i : ℕ). (not (holds L i o) || nested_in L i k) ≡ true) (c.loop-j.invariant.so_far L a)
          (sym (c.nested_or_apart.ensures L a) ∙ c.if-not-nested_or_apart.false);
    }

pub returns : goal.returns
returns c =
    let k = c.args.k in
    let o = c.in-Some.counter.0 in
    λ L a. sym (count_by a k (Some o) (ap opt_order c.in-Some.is) ∙ count_all a k o (λ i l. c.loop-j.invariant.so_far L a i (omega (arith, l))))
