use Rattle.pack.specs.Items.{bytes_of}
use Rattle.pack.specs.Meaning.{pack_of}
use Rattle.pack.specs.Notation.{◌≐◌}
use Rattle.pack.specs.Value.{no_field_type}
use Rattle.rules.specs.Search.{any_below}
use Prim.Native.Nat.{ℕ}
use mathlib.Core.Bool.{Bool, false}
use mathlib.Core.List.{List}
use mathlib.Core.Path.{◌≡◌}
use lib.ListN.{get_or}
use Rattle.rules.proofs.of.is_fieldtype.Given as goal

-- whether field type j has the name
abbrev pub named : List ℕ → List ℕ → ℕ → Bool
named s name j = (get_or (pack_of s).fieldtypes j no_field_type).name ≐ name

abbrev pub invariant-loop-j : goal.invariant-loop-j
invariant-loop-j l = any_below (named l.s (bytes_of l.s l.name)) l.j ≡ false
