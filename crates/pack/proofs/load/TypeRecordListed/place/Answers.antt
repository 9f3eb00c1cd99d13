use Rattle.pack.proofs.Places.{along_none, along_put, along_read, placed, refused, past_out}
use mathlib.Core.Path.{refl}
use Rattle.pack.proofs.load.TypeRecordListed.place.Goals as goal

pub returns-in_err-next : goal.returns-in_err-next
returns-in_err-next c = past_out _ c.from_residual.ensures.1 (refused (along_none _ c.args.out.now) c.in_err-next.ensures (λ _. refl))

pub returns : goal.returns
returns c = placed _ _ (along_read (along_put (along_none _ c.args.out.now) c.put.ensures) c.in_ok-next.ensures) refl
