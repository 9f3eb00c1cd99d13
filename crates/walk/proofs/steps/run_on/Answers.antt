use Rattle.walk.proofs.Made.{later_none}
use Rattle.walk.specs.Steps.{no_step}
use Rattle.walk.proofs.steps.run_on.Goals as goal

pub returns-in_default : goal.returns-in_default
returns-in_default c = record { later = later_none c.args.trace.now; ran = λ L a stops harm. no_step }
