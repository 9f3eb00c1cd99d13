use Rattle.pack.proofs.Positions.{lookup_room}
use native.Mathlib.Omega.{arith}
use Rattle.pack.proofs.loaded.LookupRef.byte_of_entry.Goals as goal

pub offset-requires : goal.offset-requires
offset-requires c = let x = c.args.self.now in omega (arith, lookup_room x.at, x.is.entries, c.requires, c.place_of_entry.ensures)
