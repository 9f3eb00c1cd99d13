use Rattle.pack.specs.Items.{bytes_of}
use Rattle.pack.specs.Loaded.{pgn_value}
use Rattle.pack.specs.Value.{field_at}
use Rattle.pack.specs.declared.loaded.PgnRef.{PgnRef}
use Rattle.rules.specs.LookupWiring.{ref_is}
use Rattle.rules.specs.Search.{any_below}
use Prim.Native.Nat.{ℕ}
use mathlib.Core.Bool.{Bool, false}
use mathlib.Core.List.{List}
use mathlib.Core.Path.{◌≡◌}
use Rattle.rules.proofs.lookup_uses.referenced_by_pgn.Given as goal

-- whether field k references the name
abbrev pub refers : PgnRef → List ℕ → ℕ → Bool
refers g name k = ref_is (field_at (pgn_value g) k).reference name

abbrev pub invariant-loop-k : goal.invariant-loop-k
invariant-loop-k l = any_below (refers l.pgn (bytes_of l.pgn.pack.bytes.now l.name)) l.k ≡ false
