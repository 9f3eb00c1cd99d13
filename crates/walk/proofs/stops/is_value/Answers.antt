use Rattle.pack.specs.Value.{FieldType}
use mathlib.Core.Path.{ap}
use Rattle.walk.specs.Stops.{is_dynamic_value}
use Rattle.walk.proofs.stops.is_value.Goals as goal

pub returns : goal.returns
unfolding is_dynamic_value
returns c = rw (← ap (λ (T : FieldType). T.root_name) c.field_type.ensures) c.text_is.ensures
