use Rattle.rules.proofs.Fields.{order_fits}
use Rattle.walk.proofs.stops.gives_length.Goals as goal

pub order-requires : goal.order-requires
order-requires c = order_fits c.args.found.now.pgn c.args.j c.requires
