use Rattle.pack.proofs.ReaderLaws.{none_there, same_Ok}
use Rattle.pack.proofs.Positions.{field_law}
use Rattle.pack.proofs.Standing.{reads_there}
use Rattle.pack.specs.Reads.{item_of}
use Rattle.pack.specs.Records.{read_field}
use mathlib.Core.Path.{ap, ◌∙◌, sym}
use Rattle.pack.proofs.of.field_of.Goals as goal

pub unreachable-requires : goal.unreachable-requires
unreachable-requires c =
    let r = c.field_reader.ensures in
    none_there _ _ (reads_there (read_field 4294967296 0) r.whole r.bytes r.at c.field.ensures) c.in_default.not-Ok

pub returns : goal.returns
returns c =
    let r = c.field_reader.ensures in
    let e = reads_there (read_field 4294967296 0) r.whole r.bytes r.at c.field.ensures in
    rw (same_Ok _ _ (ap item_of (sym c.in-Ok.is) ∙ e)) (field_law c.requires.at c.args.j c.requires.field)
