use Rattle.exports.specs.Answers.{filled}
use Rattle.pack.specs.Load.{Answer}
use mathlib.Core.Path.{◌∙◌, ap}
use Rattle.exports.proofs.sarwymp_load.Goals as goal

pub returns : goal.returns
returns c =
    let call = c.load.ensures in
    record {
      number = c.tell.ensures.number ∙ ap (λ (a : Answer). a.number) call.told;
      numbers = c.tell.ensures.numbers ∙ ap (λ (a : Answer). filled 11 a.values) call.told;
      work = call.work;
    }
