use borrow.Author.Tests.{ne_eqb}
use Prim.Native.Nat.{suc, ◌+◌, ◌-◌}
use native.Mathlib.Omega.{arith}
use Rattle.walk.proofs.stretches.short_of_counter.Goals as goal

pub returns-in-Some : goal.returns-in-Some
returns-in-Some c =
    record {
      fewer = c.short_of.ensures.fewer;
      none = λ j l. rw c.in-Some.is
          (ne_eqb c.in-Some.own.0 (suc (c.args.o.0 + j - 1)) (λ e. c.short_of.ensures.none j l (omega (arith, e, c.requires))));
    }
