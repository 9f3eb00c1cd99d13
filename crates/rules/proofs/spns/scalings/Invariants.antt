use Rattle.rules.specs.Spns.{check_scalings}
use Rattle.rules.specs.declared.Finding.{Finding}
use Rattle.pack.specs.Meaning.{pack_of}
use Rattle.pack.specs.Value.{pgns_of, pgn_at}
use Prim.Native.Nat.{ℕ}
use mathlib.Core.List.{List}
use Rattle.rules.proofs.Loops.{OverPgns}
use Rattle.rules.proofs.spns.scalings.Given as goal

-- the findings of PGN i
abbrev pub of_pgn : List ℕ → ℕ → List Finding
of_pgn s i = check_scalings (pgns_of (pack_of s) 1) i (pgn_at (pack_of s) 1 i)

abbrev pub invariant-loop-pgn : goal.invariant-loop-pgn
invariant-loop-pgn l =
    OverPgns l.initial.out l.pack.bytes.now l.pack.work.now 1 (of_pgn l.pack.bytes.now) l.yielded l.pgn-iterator l.out
