use borrow.Author.Tests.{ne_eqb}
use mathlib.Core.Path.{sym}
use Prim.Native.Nat.{◌+◌}
use native.Mathlib.Omega.{arith}
use Rattle.walk.proofs.stretches.short_of_edges.Goals as goal

pub returns : goal.returns
returns c =
    record {
      fewer = omega (arith, c.short_of-before.ensures.fewer, c.short_of.ensures.fewer);
      none = λ j l. rw (ne_eqb c.args.set.start.0 (c.args.next.0 + j)
          (λ e. c.short_of-before.ensures.none j (omega (arith, l, c.short_of.ensures.fewer)) (sym e)))
          (ne_eqb (c.args.next.0 + j) c.args.set.end.0 (λ e. c.short_of.ensures.none j l e));
    }
