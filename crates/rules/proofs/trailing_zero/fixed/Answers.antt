use Rattle.rules.proofs.Fields.{order_fits}
use Rattle.rules.proofs.trailing_zero.fixed.Goals as goal

pub order-requires : goal.order-requires
order-requires c = order_fits c.args.pgn.now c.args.j c.requires
