use Rattle.pack.proofs.Positions.{pgn_room}
use native.Mathlib.Omega.{arith}
use Rattle.pack.proofs.loaded.PgnRef.byte_of_field.Goals as goal

pub offset-requires : goal.offset-requires
offset-requires c = let x = c.args.self.now in omega (arith, pgn_room x.at, x.is.fields, c.requires, c.place_of_field.ensures)
