use Rattle.pack.proofs.Positions.{type_stands}
use native.Mathlib.Omega.{arith}
use Rattle.pack.proofs.loaded.Pack.byte_of_type.Goals as goal

pub offset-requires : goal.offset-requires
offset-requires c = let x = c.args.self.now in omega (arith, (type_stands x.bytes.now x.work.now x.ready c.args.i c.requires).place)
