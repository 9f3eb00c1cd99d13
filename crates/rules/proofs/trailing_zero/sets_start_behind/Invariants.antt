use Rattle.pack.specs.Loaded.{pgn_value}
use Rattle.pack.specs.Value.{Pgn, set_place}
use Rattle.rules.specs.Search.{every_below}
use Rattle.rules.specs.TrailingZero.{starts_behind}
use Prim.Native.Nat.{ℕ, ◌≤◌}
use mathlib.Core.Bool.{Bool, true}
use mathlib.Core.Path.{◌≡◌}
use Rattle.rules.proofs.trailing_zero.sets_start_behind.Given as goal

abbrev pub behind : Pgn → ℕ → ℕ → Bool
behind p o k = starts_behind (set_place p k) o

abbrev pub invariant-loop-k : goal.invariant-loop-k
invariant-loop-k l =
    record {
      turns : l.k ≤ l.places;
      so_far : every_below (behind (pgn_value l.pgn) l.order.0) l.k ≡ true;
    }
