use Rattle.pack.proofs.Positions.{type_stands}
use Rattle.pack.proofs.of.type_reader.Goals as goal

pub reader-requires : goal.reader-requires
reader-requires c =
    let t = type_stands c.args.s.now c.args.work.now c.requires.ready c.args.i c.requires.type in
    record { place = t.place; inside = t.inside }

pub returns : goal.returns
returns c =
    record {
      bytes = c.reader.ensures.bytes;
      at = c.reader.ensures.at;
      stands = type_stands c.args.s.now c.args.work.now c.requires.ready c.args.i c.requires.type;
    }
