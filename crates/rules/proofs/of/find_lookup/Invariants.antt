use Rattle.std.specs.Prelude.{None}
use Rattle.pack.specs.Items.{bytes_of}
use Rattle.pack.specs.Meaning.{pack_of}
use Rattle.pack.specs.Notation.{◌≐◌}
use Rattle.pack.specs.Ready.{place_of_lookup}
use Rattle.pack.specs.Value.{lookup_at}
use Rattle.rules.specs.Search.{first_below}
use Prim.Native.Nat.{ℕ}
use mathlib.Core.Bool.{Bool}
use mathlib.Core.List.{List}
use mathlib.Core.Path.{◌≡◌}
use Rattle.rules.proofs.of.find_lookup.Given as goal

-- whether lookup l has the name
abbrev pub named : List ℕ → List ℕ → ℕ → Bool
named s name l = (lookup_at (pack_of s).lookups l).name ≐ name

abbrev pub invariant-loop-item : goal.invariant-loop-item
invariant-loop-item l =
    record {
      place : l.place ≡ place_of_lookup (pack_of l.s) l.item;
      none_yet : first_below (named l.s (bytes_of l.s l.name)) l.item ≡ None;
    }
