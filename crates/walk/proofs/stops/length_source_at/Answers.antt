use Rattle.pack.specs.Value.{FieldType}
use mathlib.Core.Path.{ap}
use Rattle.rules.specs.DynamicLength.{length_source}
use Rattle.walk.proofs.stops.length_source_at.Goals as goal

pub returns : goal.returns
unfolding length_source
returns c =
    let same = c.field_ref-field.ensures in
    let root = rw (same.pgn, same.index) at (ap (λ (T : FieldType). T.root_name) c.field_type.ensures) in
    rw (← root, ← same.means) c.length_source.ensures
