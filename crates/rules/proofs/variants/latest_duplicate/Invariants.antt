use Rattle.rules.specs.Search.{latest_below}
use Rattle.rules.specs.Variants.{in_group, duplicates}
use Prim.Native.Nat.{ℕ, ◌≤◌}
use mathlib.Core.Path.{◌≡◌}
use mathlib.Core.Bool.{Bool, ◌&&◌}
use Rattle.pack.specs.Loaded.{tree_of, pgn_value}
use Rattle.pack.specs.Meaning.{pack_of}
use Rattle.pack.specs.Value.{pgns_of, pgn_at}
use Rattle.pack.specs.declared.loaded.PgnRef.{PgnRef}
use Rattle.rules.proofs.PgnSearches.{Searched}
use Rattle.rules.proofs.variants.latest_duplicate.Given as goal

-- whether PGN j is of the group and a duplicate
abbrev pub copies : PgnRef → ℕ → ℕ → Bool
copies g number j =
    in_group (tree_of g) (pgns_of (pack_of g.pack.bytes.now) (tree_of g)) number j
    && duplicates (pgn_at (pack_of g.pack.bytes.now) (tree_of g) j) (pgn_value g)

abbrev pub invariant-loop-earlier : goal.invariant-loop-earlier
invariant-loop-earlier l =
    Searched l.pgn.pack.bytes.now l.pgn.pack.work.now (tree_of l.pgn)
    (λ n. record { before : n ≤ l.pgn.item; found : l.found ≡ latest_below (copies l.pgn l.number) n }) l.yielded l.earlier-iterator
