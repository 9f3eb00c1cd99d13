use Rattle.pack.proofs.ReaderLaws.{none_there, same_Ok}
use Rattle.pack.proofs.Positions.{type_law}
use Rattle.pack.proofs.Standing.{reads_there}
use Rattle.pack.specs.Reads.{item_of}
use Rattle.pack.specs.Records.{read_type}
use mathlib.Core.Path.{ap, ◌∙◌, sym}
use Rattle.pack.proofs.of.type_of.Goals as goal

pub unreachable-requires : goal.unreachable-requires
unreachable-requires c =
    let r = c.type_reader.ensures in
    none_there _ _ (reads_there read_type r.stands r.bytes r.at c.field_type.ensures) c.in_default.not-Ok

pub returns : goal.returns
returns c =
    let r = c.type_reader.ensures in
    let e = reads_there read_type r.stands r.bytes r.at c.field_type.ensures in
    rw (same_Ok _ _ (ap item_of (sym c.in-Ok.is) ∙ e)) (type_law c.args.s.now c.args.work.now c.requires.ready c.args.i c.requires.type)
