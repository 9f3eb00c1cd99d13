use Rattle.rules.specs.Check.{check_pgn}
use Rattle.rules.specs.declared.Finding.{Finding}
use Rattle.rules.proofs.Loops.{OverPgns}
use Rattle.pack.specs.Meaning.{pack_of}
use Rattle.pack.specs.Trees.{tree_number}
use Rattle.pack.specs.Value.{Pack, pgn_at}
use Prim.Native.Nat.{ℕ}
use mathlib.Core.List.{List}
use Rattle.rules.proofs.trees.check_pgns.Given as goal

abbrev pub of_pgn : Pack → ℕ → ℕ → List Finding
of_pgn P t i = check_pgn P t i (pgn_at P t i)

abbrev pub invariant-loop-pgn : goal.invariant-loop-pgn
invariant-loop-pgn l =
    OverPgns l.initial.out l.pack.bytes.now l.pack.work.now (tree_number l.fn.protocol)
    (of_pgn (pack_of l.pack.bytes.now) (tree_number l.fn.protocol)) l.yielded l.pgn-iterator l.out
