use Rattle.std.specs.Prelude.{◌==◌}
use Rattle.rules.specs.Search.{count_below}
use Prim.Native.Nat.{ℕ, ◌+◌, ◌*◌, ◌≤◌}
use mathlib.Core.Path.{◌≡◌}
use mathlib.Core.Bool.{Bool}
use mathlib.Core.List.{List}
use lib.ListN.{get_or}
use Rattle.rules.proofs.check.count_errors.Given as goal

-- finding i has severity 1
abbrev pub error_at : List ℕ → ℕ → Bool
error_at o i = get_or o (8 * i + 1) 0 == 1

abbrev pub invariant-loop-i : goal.invariant-loop-i
invariant-loop-i l =
    record {
      turns : l.i ≤ l.n;
      few : l.errors ≤ l.i;
      errors : l.errors ≡ count_below (error_at l.findings) l.i;
    }
