use Rattle.pack.specs.Items.{bytes_of}
use Rattle.pack.specs.Loaded.{pgn_value}
use Rattle.pack.specs.Value.{Bytes, Pgn, field_at}
use Rattle.rules.specs.Namers.{candidate_at}
use Rattle.rules.specs.Search.{max_below}
use Prim.Native.Nat.{ℕ}
use mathlib.Core.Path.{◌≡◌}
use Rattle.std.specs.Prelude.{Option}
use Rattle.rules.proofs.spn_names.candidate_in.Given as goal

abbrev pub of_field : Pgn → Bytes → ℕ → ℕ → Option ℕ
of_field p name b k = candidate_at name b (field_at p k).name (field_at p k).spn

abbrev pub invariant-loop-k : goal.invariant-loop-k
invariant-loop-k l = l.found ≡ max_below (of_field (pgn_value l.pgn) (bytes_of l.pgn.pack.bytes.now l.name) l.b) l.k
