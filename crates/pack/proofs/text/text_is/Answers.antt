use Rattle.pack.proofs.text.text_is.Goals as goal

pub returns : goal.returns
returns c = cc
