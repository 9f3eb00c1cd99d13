use Rattle.pack.specs.Loaded.{pgn_value}
use Rattle.walk.proofs.sets.set_of.Goals as goal

pub returns-in_default : goal.returns-in_default
returns-in_default c = rw c.in_default.is (c.no_set.ensures (pgn_value c.args.pgn.now).fields)
