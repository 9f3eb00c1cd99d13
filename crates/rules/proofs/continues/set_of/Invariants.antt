use Rattle.pack.specs.Loaded.{pgn_value}
use Rattle.pack.specs.Value.{Pgn, set_place}
use Rattle.rules.specs.Continues.{holds_order}
use Rattle.rules.specs.Search.{latest_below}
use Prim.Native.Nat.{ℕ, ◌+◌}
use mathlib.Core.Bool.{Bool}
use mathlib.Core.Path.{◌≡◌}
use lib.ListN.{length}
use Rattle.rules.proofs.continues.set_of.Given as goal

-- whether the set at place j holds field k
abbrev pub at_place : Pgn → ℕ → ℕ → Bool
at_place p k j = holds_order (set_place p j) (k + 1)

abbrev pub invariant-loop-j : goal.invariant-loop-j
invariant-loop-j l = latest_below (at_place (pgn_value l.pgn) l.k) (length (pgn_value l.pgn).sets) ≡ latest_below (at_place (pgn_value l.pgn) l.k) l.j
