use Rattle.rules.specs.UniqueIds.{same_id_as, unique_field_ids}
use Rattle.rules.specs.Search.{latest_below}
use Rattle.rules.specs.declared.Finding.{Finding}
use Rattle.pack.specs.Meaning.{pack_of}
use Rattle.pack.specs.Notation.{◌≐◌}
use Rattle.pack.specs.Trees.{tree_number}
use Rattle.pack.specs.Value.{pgn_at}
use Prim.Native.Nat.{ℕ}
use mathlib.Core.List.{List, ◌++◌}
use Rattle.rules.proofs.Loops.{OverPgns}
use Rattle.rules.proofs.unique_ids.check_unique_ids.Given as goal

-- the findings of PGN i
abbrev pub of_pgn : List ℕ → ℕ → ℕ → List Finding
of_pgn s t i = same_id_as t i (latest_below (λ j. (pgn_at (pack_of s) t j).id ≐ (pgn_at (pack_of s) t i).id) i) ++ unique_field_ids t i (pgn_at (pack_of s) t i)

abbrev pub invariant-loop-pgn : goal.invariant-loop-pgn
invariant-loop-pgn l =
    let s = l.pack.bytes.now in let t = tree_number l.fn.protocol in
    OverPgns l.initial.out s l.pack.work.now t (of_pgn s t) l.yielded l.pgn-iterator l.out
