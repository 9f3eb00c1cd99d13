use Rattle.rules.specs.Search.{first_below}
use Rattle.pack.specs.Items.{bytes_of}
use Rattle.pack.specs.Meaning.{pack_of}
use Rattle.pack.specs.Notation.{◌≐◌}
use Rattle.pack.specs.Value.{field_at, pgn_at}
use Rattle.std.specs.Prelude.{None}
use Prim.Native.Nat.{ℕ, ◌≤◌}
use mathlib.Core.Path.{◌≡◌}
use mathlib.Core.List.{List}
use mathlib.Core.Bool.{Bool}
use Rattle.rules.proofs.of.first_with_id.Given as goal

-- whether field j has the id
abbrev pub has : List ℕ → ℕ → ℕ → List ℕ → ℕ → Bool
has s t i id j = (field_at (pgn_at (pack_of s) t i) j).id ≐ id

abbrev pub invariant-loop-j : goal.invariant-loop-j
invariant-loop-j l =
    record {
      turns : l.j ≤ l.n;
      none_yet : first_below (has l.s l.t l.i (bytes_of l.s l.id)) l.j ≡ None;
    }
