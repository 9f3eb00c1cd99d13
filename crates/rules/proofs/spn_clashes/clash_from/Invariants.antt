use Prim.Native.Nat.{ℕ, ◌+◌}
use mathlib.Core.Path.{◌≡◌}
use mathlib.Core.Bool.{Bool, false}
use Rattle.pack.specs.Loaded.{tree_of, pgn_value}
use Rattle.pack.specs.Meaning.{pack_of}
use Rattle.pack.specs.Value.{pgns_of, field_at}
use Rattle.pack.specs.declared.loaded.PgnRef.{PgnRef}
use Rattle.rules.specs.Search.{any_below}
use Rattle.rules.specs.SpnClashes.{other_among}
use Rattle.rules.proofs.spn_clashes.clash_from.Given as goal

-- whether field k has one of its name with another SPN
abbrev pub hit : PgnRef → ℕ → Bool
hit g k = other_among (pgns_of (pack_of g.pack.bytes.now) (tree_of g)) (g.item + 1) (field_at (pgn_value g) k).name (field_at (pgn_value g) k).spn

abbrev pub invariant-loop-k : goal.invariant-loop-k
invariant-loop-k l = any_below (hit l.pgn) l.k ≡ false
