-- A PGN's field: its field type is there, and its order is a number.
use Rattle.pack.specs.Loaded.{pgn_value}
use Rattle.pack.specs.Meaning.{field_meaning, pack_of}
use Rattle.pack.specs.Value.{Field, field_at}
use Rattle.pack.specs.declared.field.FieldView.{FieldView}
use Rattle.pack.specs.declared.loaded.PgnRef.{PgnRef}
use Rattle.pack.proofs.Few.{fields_few}
use Rattle.pack.proofs.Positions.{field_ft_law}
use Prim.Native.Nat.{ℕ, ◌<◌}
use native.Mathlib.Omega.{arith}
use mathlib.Core.Path.{◌≡◌, ap}
use lib.ListN.{length}

pub type_there : (g : PgnRef) (f : FieldView) (k : ℕ) → k < g.view.fields → field_meaning g.pack.bytes.now f ≡ field_at (pgn_value g) k
    → f.ft < length (pack_of g.pack.bytes.now).fieldtypes
type_there g f k h is = omega (arith, ap (λ (F : Field). F.ft) is, field_ft_law g.at k (omega (arith, g.is.fields, h)))

pub order_fits : (g : PgnRef) (k : ℕ) → k < g.view.fields → k < 4294967295
order_fits g k h = omega (arith, h, g.is.fields, fields_few g.at)
