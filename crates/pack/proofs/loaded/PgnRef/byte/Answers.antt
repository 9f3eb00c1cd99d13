use Rattle.pack.proofs.Positions.{pgn_room}
use native.Mathlib.Omega.{arith}
use Rattle.pack.proofs.loaded.PgnRef.byte.Goals as goal

pub offset-requires : goal.offset-requires
offset-requires c = omega (arith, pgn_room c.args.self.now.at)
