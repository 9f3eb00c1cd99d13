use Rattle.std.proofs.lemmas.List.Edits.{sets-eq}
use Rattle.std.proofs.lemmas.Slice.{put_mid-paste}
use Rattle.rules.specs.Emit.{numbers}
use native.Mathlib.Omega.{arith}
use mathlib.Core.Path.{◌∙◌, sym}
use Rattle.rules.proofs.emit.write.Goals as goal

pub returns : goal.returns
returns c =
    put_mid-paste _ _ _ _ (numbers c.args.f) 8 c.copy_from_slice.ensures.after (omega arith) (omega arith)
    ∙ sym (sets-eq (numbers c.args.f) c.args.out.now c.args.at c.requires)
