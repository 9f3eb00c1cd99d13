use Rattle.rules.specs.Search.{latest_below}
use Prim.Native.Nat.{ℕ, ◌≤◌}
use mathlib.Core.Path.{◌≡◌}
use mathlib.Core.Bool.{Bool}
use Rattle.pack.specs.Loaded.{tree_of, pgn_value}
use Rattle.pack.specs.Meaning.{pack_of}
use Rattle.pack.specs.Notation.{◌≐◌}
use Rattle.pack.specs.Value.{pgn_at}
use Rattle.pack.specs.declared.loaded.PgnRef.{PgnRef}
use Rattle.rules.proofs.PgnSearches.{Searched}
use Rattle.rules.proofs.unique_ids.latest_holder.Given as goal

-- whether PGN j has the id
abbrev pub has : PgnRef → ℕ → Bool
has g j = (pgn_at (pack_of g.pack.bytes.now) (tree_of g) j).id ≐ (pgn_value g).id

abbrev pub invariant-loop-earlier : goal.invariant-loop-earlier
invariant-loop-earlier l =
    Searched l.pgn.pack.bytes.now l.pgn.pack.work.now (tree_of l.pgn)
    (λ n. record { before : n ≤ l.pgn.item; found : l.found ≡ latest_below (has l.pgn) n }) l.yielded l.earlier-iterator
