use Rattle.pack.specs.Loaded.{pgn_value}
use Rattle.pack.specs.Value.{Pgn, field_at}
use Rattle.rules.specs.SpnNames.{spn_from}
use Rattle.rules.specs.Search.{min_below}
use Prim.Native.Nat.{ℕ}
use mathlib.Core.Path.{◌≡◌}
use Rattle.std.specs.Prelude.{Option}
use Rattle.rules.proofs.spn_names.least_spn_in.Given as goal

abbrev pub of_field : Pgn → ℕ → ℕ → Option ℕ
of_field p b k = spn_from b (field_at p k).spn

abbrev pub invariant-loop-k : goal.invariant-loop-k
invariant-loop-k l = l.found ≡ min_below (of_field (pgn_value l.pgn) l.b) l.k
