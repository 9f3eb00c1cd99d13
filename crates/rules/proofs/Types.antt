-- A field's type, said of its view.
use Prim.Native.Nat.{ℕ}
use mathlib.Core.Path.{◌≡◌, ap, sym}
use mathlib.Core.List.{List}
use mathlib.Core.Bool.{◌||◌}
use Rattle.pack.specs.Notation.{◌≐◌}
use Rattle.pack.specs.Value.{Field, FieldType}
use Rattle.pack.specs.Items.{bytes_of}
use Rattle.pack.specs.Meaning.{type_meaning}
use Rattle.pack.specs.declared.field_type.FieldTypeView.{FieldTypeView}
use Rattle.rules.specs.Texts.{NUMBER, LOOKUP}
use Rattle.rules.specs.Model.{fieldtype_of}
use Rattle.rules.specs.Continues.{integer}

pub integer_is : (s : List ℕ) (fts : List FieldType) (f : Field) (v : FieldTypeView) → type_meaning s v ≡ fieldtype_of fts f
    → integer fts f ≡ ((bytes_of s v.root ≐ NUMBER) || (bytes_of s v.root ≐ LOOKUP))
unfolding integer
integer_is s fts f v is = ap (λ (T : FieldType). (T.root_name ≐ NUMBER) || (T.root_name ≐ LOOKUP)) (sym is)
