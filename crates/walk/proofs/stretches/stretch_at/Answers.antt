use native.Mathlib.Omega.{arith}
use Prim.Native.Nat.{ℕ, ◌+◌, ◌-◌}
use mathlib.Core.Path.{◌≡◌, refl, ap, subst, ◌∙◌}
use lib.ListN.{get_or}
use Rattle.walk.specs.Runs.{PlainAt}
use Rattle.walk.proofs.Plain.{plain_within}
use Rattle.walk.proofs.stretches.stretch_at.Goals as goal

-- src/stretches.rt:181:1
pub returns : goal.returns
returns c =
    let sets = c.args.sets in
    let o = c.args.o.0 in
    let plain = c.plain_orders-n.ensures.plain in
    record {
      from = refl;
      straight = record {
        within = omega (arith, c.later_order-to.ensures, plain_within sets o c.plain_orders-n.result c.requires.within plain);
        plain = λ x lo hi. let e : o + (x - o) ≡ x = omega (arith, lo) in
            subst (PlainAt sets) e (plain (x - o) (omega (arith, lo, hi, c.later_order-to.ensures)));
        ending = c.ending_behind-ending.ensures;
      };
      sound = record {
        first = c.requires.first;
        order = omega (arith, c.later_order-to.ensures);
        free = λ h x lo hi. let e : x - 1 ≡ c.index_of.result.0 + (x - o) = omega (arith, lo, c.index_of.ensures, c.requires.first) in
            ap (λ (i : ℕ). get_or c.args.memory.now.marks i 0) e
            ∙ c.all_free-free.ensures h (x - o) (omega (arith, lo, hi, c.later_order-to.ensures));
        set = λ x h. (c.ending_behind-ending.ensures x h).set;
        start = λ x h. (c.ending_behind-ending.ensures x h).first;
      };
    }
