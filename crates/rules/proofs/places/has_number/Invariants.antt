use Rattle.std.specs.Prelude.{◌==◌}
use Rattle.rules.proofs.PgnSearches.{NoneOfPgns}
use Rattle.pack.specs.Meaning.{pack_of}
use Rattle.pack.specs.Trees.{tree_number}
use Rattle.pack.specs.Value.{Pack, pgn_at}
use Prim.Native.Nat.{ℕ}
use mathlib.Core.Bool.{Bool}
use Rattle.rules.proofs.places.has_number.Given as goal

-- whether PGN i has the number
abbrev pub numbered : Pack → ℕ → ℕ → ℕ → Bool
numbered P t number i = (pgn_at P t i).pgn == number

abbrev pub invariant-loop-pgn : goal.invariant-loop-pgn
invariant-loop-pgn l =
    let s = l.pack.bytes.now in let t = tree_number l.fn.protocol in
    NoneOfPgns s l.pack.work.now t (numbered (pack_of s) t l.fn.number) l.yielded l.pgn-iterator
