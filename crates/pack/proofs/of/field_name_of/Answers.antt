use Rattle.pack.proofs.Positions.{field_name_law}
use Rattle.pack.proofs.ReaderLaws.{same_Ok}
use Rattle.pack.proofs.Standing.{outcome_there}
use Rattle.pack.specs.Records.{read_second_text}
use mathlib.Core.Path.{◌∙◌, sym}
use Rattle.pack.proofs.of.field_name_of.Goals as goal

pub unreachable-requires : goal.unreachable-requires
unreachable-requires c =
    let r = c.field_reader.ensures in
    c.in_default.not-Ok _ (outcome_there read_second_text c.field_reader.result r.name r.bytes r.at c.second_text.ensures)

pub returns : goal.returns
returns c =
    let r = c.field_reader.ensures in
    let e = outcome_there read_second_text c.field_reader.result r.name r.bytes r.at c.second_text.ensures in
    rw (same_Ok _ _ (sym c.in-Ok.is ∙ e)) (field_name_law c.requires.at c.args.j c.requires.field)
