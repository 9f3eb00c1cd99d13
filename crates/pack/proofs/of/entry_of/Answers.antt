use Rattle.pack.proofs.ReaderLaws.{none_there, same_Ok}
use Rattle.pack.proofs.Positions.{entry_law}
use Rattle.pack.proofs.Standing.{reads_there}
use Rattle.pack.specs.Reads.{item_of}
use Rattle.pack.specs.Records.{read_entry}
use mathlib.Core.Path.{ap, ◌∙◌, sym}
use Rattle.pack.proofs.of.entry_of.Goals as goal

pub unreachable-requires : goal.unreachable-requires
unreachable-requires c =
    let r = c.entry_reader.ensures in
    none_there _ _ (reads_there (read_entry c.args.kind) r.stands r.bytes r.at c.entry.ensures) c.in_default.not-Ok

pub returns : goal.returns
returns c =
    let r = c.entry_reader.ensures in
    let e = reads_there (read_entry c.args.kind) r.stands r.bytes r.at c.entry.ensures in
    rw (same_Ok _ _ (ap item_of (sym c.in-Ok.is) ∙ e)) (entry_law c.requires.at c.args.kind c.requires.kind c.args.j c.requires.entry)
