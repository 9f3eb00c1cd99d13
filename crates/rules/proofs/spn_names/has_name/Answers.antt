use Rattle.pack.specs.Items.{bytes_of}
use Rattle.pack.specs.Notation.{◌≐◌}
use Rattle.pack.specs.Value.{Bytes}
use Rattle.rules.proofs.SpnLaws.{field_in, name_is, named_by_one}
use mathlib.Core.Path.{◌∙◌, ap}
use Rattle.rules.proofs.spn_names.has_name.Goals as goal

pub unreachable-requires : goal.unreachable-requires
unreachable-requires c = named_by_one c.args.pack.now.bytes.now c.args.spn c.in_default.ensures c.requires

pub field_name-own-requires : goal.field_name-own-requires
field_name-own-requires c = field_in c.args.pack.now.bytes.now c.args.spn c.in-Some.namer c.in-Some.ensures

pub returns : goal.returns
returns c =
    let s = c.args.pack.now.bytes.now in
    c.same_text.ensures
    ∙ ap (λ (t : Bytes). t ≐ bytes_of s c.args.name)
    (name_is s c.args.spn c.in-Some.namer c.in-Some.ensures c.field_name-own.result c.field_name-own.ensures)
