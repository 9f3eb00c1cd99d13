use Rattle.pack.proofs.text.same_text.Goals as goal

pub returns : goal.returns
returns c = cc
