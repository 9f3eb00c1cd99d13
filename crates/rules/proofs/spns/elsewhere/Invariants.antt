use Rattle.rules.specs.Spns.{spns_elsewhere}
use Rattle.rules.specs.declared.Finding.{Finding}
use Rattle.pack.specs.Meaning.{pack_of}
use Rattle.pack.specs.Trees.{tree_number}
use Rattle.pack.specs.Value.{pgn_at}
use Prim.Native.Nat.{ℕ}
use mathlib.Core.List.{List}
use Rattle.rules.proofs.Loops.{OverPgns}
use Rattle.rules.proofs.spns.elsewhere.Given as goal

-- the findings of PGN i
abbrev pub of_pgn : List ℕ → ℕ → ℕ → List Finding
of_pgn s t i = spns_elsewhere t i (pgn_at (pack_of s) t i)

abbrev pub invariant-loop-pgn : goal.invariant-loop-pgn
invariant-loop-pgn l =
    let s = l.pack.bytes.now in let t = tree_number l.fn.protocol in
    OverPgns l.initial.out s l.pack.work.now t (of_pgn s t) l.yielded l.pgn-iterator l.out
