use Rattle.pack.specs.Loaded.{tree_of, pgn_value}
use Rattle.pack.specs.Meaning.{optional_repeating}
use Rattle.pack.specs.Value.{set_place}
use Rattle.pack.specs.declared.loaded.PgnRef.{PgnRef}
use Rattle.rules.specs.declared.Finding.{Finding}
use Rattle.rules.specs.Emit.{Reporting}
use Rattle.rules.specs.Repeating.{check_set, set_before}
use Prim.Native.Nat.{ℕ, ◌+◌}
use mathlib.Core.List.{List}
use mathlib.Core.Path.{◌≡◌}
use lib.ListN.{length}
use Rattle.rules.proofs.repeating.check_repeating.Given as goal

-- what is found at place k
abbrev pub of_place : PgnRef → ℕ → List Finding
of_place g k = check_set (tree_of g) g.item (k + 1) (length (pgn_value g).fields) (set_before (pgn_value g) k) (set_place (pgn_value g) k)

abbrev pub invariant-loop-k : goal.invariant-loop-k
invariant-loop-k l =
    record {
      outer : optional_repeating l.outer ≡ set_before (pgn_value l.pgn) l.k;
      reports : Reporting l.initial.out (of_place l.pgn) l.pgn.view.places l.k l.out;
    }
