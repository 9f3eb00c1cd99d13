use Rattle.pack.proofs.Positions.{field_ft_law}
use Rattle.pack.specs.Value.{Field}
use mathlib.Core.Path.{ap}
use native.Mathlib.Omega.{arith}
use Rattle.pack.proofs.loaded.FieldRef.field_type.Goals as goal

pub field_type-requires : goal.field_type-requires
field_type-requires c =
    let x = c.args.self.now in let g = x.pgn.now in
    omega (arith, ap (λ (F : Field). F.ft) x.means, field_ft_law g.at x.index (omega (arith, g.is.fields, x.inside)))

pub returns : goal.returns
returns c = rw (← ap (λ (F : Field). F.ft) c.args.self.now.means) c.field_type.ensures
