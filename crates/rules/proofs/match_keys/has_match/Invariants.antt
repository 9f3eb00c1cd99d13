use Rattle.std.specs.Prelude.{is_some}
use Rattle.pack.specs.Loaded.{pgn_value}
use Rattle.pack.specs.Value.{Pgn, field_at}
use Rattle.rules.specs.Search.{any_below}
use Prim.Native.Nat.{ℕ}
use mathlib.Core.Path.{◌≡◌}
use mathlib.Core.Bool.{Bool, false}
use Rattle.rules.proofs.match_keys.has_match.Given as goal

-- whether field k has a match
abbrev pub has : Pgn → ℕ → Bool
has p k = is_some (field_at p k).match

abbrev pub invariant-loop-k : goal.invariant-loop-k
invariant-loop-k l = any_below (has (pgn_value l.pgn)) l.k ≡ false
