use Rattle.pack.proofs.Positions.{lookup_name_law, lookup_name_stands, lookup_listed, record_inside, record_listed}
use Rattle.pack.proofs.ReaderLaws.{none_there, same_Ok}
use Rattle.pack.proofs.Standing.{reads_there}
use Rattle.pack.specs.Items.{read_text}
use Rattle.pack.specs.Reads.{item_of}
use mathlib.Core.Path.{ap, ◌∙◌, sym}
use native.Mathlib.Omega.{arith}
use Rattle.pack.proofs.of.lookup_name_of.Goals as goal

pub reader-requires : goal.reader-requires
reader-requires c =
    let l = lookup_listed c.requires in
    record { place = record_listed _ _ c.requires.ready _ (omega (arith, l)); inside = record_inside _ _ c.requires.ready _ (omega (arith, l)) }

pub unreachable-requires : goal.unreachable-requires
unreachable-requires c =
    none_there _ _ (reads_there read_text (lookup_name_stands c.requires) c.reader.ensures.bytes c.reader.ensures.at c.text.ensures) c.in_default.not-Ok

pub returns : goal.returns
returns c =
    let e = reads_there read_text (lookup_name_stands c.requires) c.reader.ensures.bytes c.reader.ensures.at c.text.ensures in
    rw (same_Ok _ _ (ap item_of (sym c.in-Ok.is) ∙ e)) (lookup_name_law c.requires)
