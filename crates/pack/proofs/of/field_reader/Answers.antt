use Rattle.pack.proofs.Few.{fields_few}
use Rattle.pack.proofs.Positions.{field_stands, field_id_stands, field_name_stands}
use native.Mathlib.Omega.{arith}
use Rattle.pack.proofs.of.field_reader.Goals as goal

pub overflow_add-p : goal.overflow_add-p
overflow_add-p c = omega (arith, fields_few c.requires.at, c.requires.field)

pub overflow_add-p-2 : goal.overflow_add-p-2
overflow_add-p-2 c = omega (arith, fields_few c.requires.at, c.requires.field)

pub reader-requires : goal.reader-requires
reader-requires c =
    let t = field_stands c.requires.at c.args.j c.requires.field in
    record { place = t.place; inside = t.inside }

pub returns : goal.returns
returns c =
    record {
      bytes = c.reader.ensures.bytes;
      at = c.reader.ensures.at;
      whole = field_stands c.requires.at c.args.j c.requires.field;
      id = field_id_stands c.requires.at c.args.j c.requires.field;
      name = field_name_stands c.requires.at c.args.j c.requires.field;
    }
