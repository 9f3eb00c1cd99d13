use Rattle.pack.proofs.text.text_precedes.Goals as goal

pub returns : goal.returns
returns c = cc
