use mathlib.Core.Path.{refl, sym, ap, ◌∙◌}
use mathlib.Core.Bool.{false≢true}
use Rattle.std.specs.Prelude.{Some}
use Rattle.walk.proofs.Plain.{turns_endless, turns_more}
use native.Mathlib.Omega.{arith}
use Rattle.walk.proofs.passes.Passes.begins.Goals as goal

pub returns-in_default-further : goal.returns-in_default-further
returns-in_default-further c =
    record {
      kept = λ h. refl;
      turns = λ h. turns_endless c.args.self.now.numbers (omega (arith, c)) c.args.k c.requires c.left_at.result c.left_at.ensures
          (c.in-Some.is ∙ ap Some c.in_default-further.is);
    }

pub returns : goal.returns
returns c =
    record {
      kept = λ h. absurd (false≢true (sym h));
      turns = λ h. turns_more c.args.self.now.numbers (omega (arith, c)) c.args.k c.requires c.left_at.result c.left_at.ensures
          c.in-More.more (c.in-Some.is ∙ ap Some c.in-More.is) c.if-more-eq0.false _ refl;
    }
