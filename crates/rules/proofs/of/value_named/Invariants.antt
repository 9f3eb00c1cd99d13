use Rattle.std.specs.Prelude.{None}
use Rattle.pack.specs.Items.{bytes_of}
use Rattle.pack.specs.Meaning.{pack_of}
use Rattle.pack.specs.Notation.{◌≐◌}
use Rattle.pack.specs.Value.{entry_at, lookup_at}
use Rattle.rules.specs.Search.{first_below}
use Prim.Native.Nat.{ℕ}
use mathlib.Core.Bool.{Bool}
use mathlib.Core.List.{List}
use mathlib.Core.Path.{◌≡◌}
use Rattle.rules.proofs.of.value_named.Given as goal

-- whether entry e of lookup l has the name
abbrev pub named : List ℕ → ℕ → List ℕ → ℕ → Bool
named s l name e = (entry_at (lookup_at (pack_of s).lookups l).entries e).name ≐ name

abbrev pub invariant-loop-e : goal.invariant-loop-e
invariant-loop-e l = first_below (named l.s l.item (bytes_of l.s l.name)) l.e ≡ None
