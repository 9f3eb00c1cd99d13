use Rattle.walk.proofs.TwoCalls.{demand_3}
use lib.ListN.{length}
use Rattle.walk.proofs.guaranteed.check_then_walk.Goals as goal

pub returns : goal.returns
returns c =
    let d = demand_3 c.args.pack.now c.args.tree c.args.pgn c.args.readings.now c.args.visits.now
    (length c.args.work.now) (length c.args.scratch.now) (length c.args.findings.now) c.check-checked.result c.walk-walked.result _
    c.check-checked.ensures.answer c.walk-walked.ensures.answer c.walk-walked.ensures.visits in
    record { claim = d.0; claim_widest = d.1; checks = c.check-checked.ensures; walks = c.walk-walked.ensures }
