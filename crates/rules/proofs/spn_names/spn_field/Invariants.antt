use Rattle.pack.specs.Loaded.{pgn_value}
use Rattle.pack.specs.Value.{Pgn, field_at}
use Rattle.rules.specs.SpnNames.{is_number}
use Rattle.rules.specs.Search.{first_below}
use Prim.Native.Nat.{ℕ}
use mathlib.Core.Path.{◌≡◌}
use mathlib.Core.Bool.{Bool}
use Rattle.std.specs.Prelude.{None}
use Rattle.rules.proofs.spn_names.spn_field.Given as goal

-- whether field k carries the SPN
abbrev pub carries : Pgn → ℕ → ℕ → Bool
carries p spn k = is_number (field_at p k).spn spn

abbrev pub invariant-loop-k : goal.invariant-loop-k
invariant-loop-k l = first_below (carries (pgn_value l.pgn) l.spn) l.k ≡ None
