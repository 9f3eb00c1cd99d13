use Rattle.std.specs.Prelude.{◌==◌}
use Rattle.rules.specs.Search.{any_below}
use Rattle.pack.specs.Loaded.{pgn_value}
use Rattle.pack.specs.Value.{field_at}
use Rattle.pack.specs.declared.loaded.PgnRef.{PgnRef}
use mathlib.Core.Bool.{◌||◌, Bool, false}
use Prim.Native.Nat.{ℕ, ◌≤◌}
use mathlib.Core.Path.{◌≡◌}
use Rattle.rules.proofs.trailing_zero.any_moves.Given as goal

-- whether field k moves what follows it
abbrev pub moving : PgnRef → ℕ → Bool
moving g k = ((field_at (pgn_value g) k).res_bits == 0) || (field_at (pgn_value g) k).proprietary

abbrev pub invariant-loop-k : goal.invariant-loop-k
invariant-loop-k l =
    record {
      turns : l.k ≤ l.n;
      none_yet : any_below (moving l.pgn) l.k ≡ false;
    }
