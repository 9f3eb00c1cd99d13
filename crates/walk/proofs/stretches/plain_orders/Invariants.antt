use mathlib.Core.Path.{◌≡◌}
use mathlib.Core.Bool.{false}
use Prim.Native.Nat.{ℕ, ◌≤◌, ◌-◌, ◌<◌, ◌+◌}
use Rattle.walk.specs.ByPlace.{counts}
use Rattle.pack.specs.Meaning.{opt_order}
use Rattle.walk.specs.Runs.{edge}
use Rattle.walk.specs.SetsOf.{value_at}
use Rattle.walk.proofs.stretches.plain_orders.Given as goal

abbrev pub invariant-loop-k : goal.invariant-loop-k
invariant-loop-k l =
    record {
      less : l.n ≤ l.sets.fields - l.o.0;
      edges : (i : ℕ) → i < l.k → (j : ℕ) → j < l.n → edge (value_at l.sets i) (l.next.0 + j) ≡ false;
      uncounted : (i : ℕ) → i < l.k → (j : ℕ) → j < l.n → counts (opt_order (value_at l.sets i).counter) (l.o.0 + j - 1) ≡ false;
    }
