use Rattle.rules.specs.Search.{count_below}
use Rattle.rules.specs.Model.{is_text}
use Rattle.pack.specs.Items.{bytes_of}
use Rattle.pack.specs.Loaded.{pgn_value}
use Rattle.pack.specs.Value.{field_at}
use Rattle.pack.specs.declared.loaded.PgnRef.{PgnRef}
use mathlib.Core.Bool.{Bool}
use Prim.Native.Nat.{ℕ, ◌≤◌}
use mathlib.Core.Path.{◌≡◌}
use mathlib.Core.List.{List}
use Rattle.rules.proofs.continues.continued_by.Given as goal

-- whether field k continues the one with the id
abbrev pub continuing : PgnRef → List ℕ → ℕ → Bool
continuing g id k = is_text (field_at (pgn_value g) k).continues id

abbrev pub invariant-loop-k : goal.invariant-loop-k
invariant-loop-k l =
    record {
      turns : l.k ≤ l.fields;
      few : l.count ≤ l.k;
      count : l.count ≡ count_below (continuing l.pgn (bytes_of l.pgn.pack.bytes.now l.id)) l.k;
    }
