use Rattle.pack.proofs.Positions.{lookup_room}
use native.Mathlib.Omega.{arith}
use Rattle.pack.proofs.loaded.LookupRef.byte.Goals as goal

pub offset-requires : goal.offset-requires
offset-requires c = omega (arith, lookup_room c.args.self.now.at)
