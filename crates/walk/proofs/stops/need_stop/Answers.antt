use Rattle.rules.proofs.Fields.{order_fits}
use Rattle.walk.proofs.stops.need_stop.Goals as goal

pub order-own-requires : goal.order-own-requires
order-own-requires c = order_fits c.args.found.now.pgn c.args.field.now.index (rw c.requires at c.args.field.now.inside)
