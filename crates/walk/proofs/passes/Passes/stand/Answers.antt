use Rattle.walk.proofs.PassLaws.{close_four}
use mathlib.Core.Path.{refl}
use Rattle.walk.proofs.passes.Passes.stand.Goals as goal

pub loop-k-init : goal.loop-k-init
loop-k-init c = record { rest = λ L a l. close_four a _ l; memory = refl }
