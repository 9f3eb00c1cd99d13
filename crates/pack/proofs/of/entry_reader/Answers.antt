use Rattle.pack.proofs.Few.{entries_few}
use Rattle.pack.proofs.Positions.{entry_stands}
use native.Mathlib.Omega.{arith}
use Rattle.pack.proofs.of.entry_reader.Goals as goal

pub overflow_add-p : goal.overflow_add-p
overflow_add-p c = omega (arith, entries_few c.requires.at, c.requires.entry)

pub overflow_add-p-2 : goal.overflow_add-p-2
overflow_add-p-2 c = omega (arith, entries_few c.requires.at, c.requires.entry)

pub reader-requires : goal.reader-requires
reader-requires c =
    let t = entry_stands c.requires.at c.args.kind c.requires.kind c.args.j c.requires.entry in
    record { place = t.place; inside = t.inside }

pub returns : goal.returns
returns c =
    record {
      bytes = c.reader.ensures.bytes;
      at = c.reader.ensures.at;
      stands = entry_stands c.requires.at c.args.kind c.requires.kind c.args.j c.requires.entry;
    }
