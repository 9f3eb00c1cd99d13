use Rattle.rules.specs.Emit.{Reporting}
use Rattle.rules.specs.Search.{any_below}
use Rattle.rules.specs.DynamicLength.{length_source, dynamic_length_at}
use Rattle.rules.specs.declared.Finding.{Finding}
use mathlib.Core.Bool.{Bool}
use Rattle.pack.specs.Loaded.{tree_of, pgn_value}
use Rattle.pack.specs.Meaning.{pack_of}
use Rattle.pack.specs.Value.{field_at}
use Rattle.pack.specs.declared.loaded.PgnRef.{PgnRef}
use Prim.Native.Nat.{ℕ}
use mathlib.Core.Path.{◌≡◌}
use mathlib.Core.List.{List}
use Rattle.rules.proofs.dynamic_length.check_dynamic_length.Given as goal

abbrev pub of_field : PgnRef → ℕ → List Finding
of_field g k = dynamic_length_at (pack_of g.pack.bytes.now).fieldtypes (tree_of g) g.item (pgn_value g) k (field_at (pgn_value g) k)

abbrev pub source : PgnRef → ℕ → Bool
source g j = length_source (pack_of g.pack.bytes.now).fieldtypes (field_at (pgn_value g) j)

abbrev pub invariant-loop-k : goal.invariant-loop-k
invariant-loop-k l =
    record {
      reporting : Reporting l.initial.out (of_field l.pgn) l.pgn.view.fields l.k l.out;
      have : l.have ≡ any_below (source l.pgn) l.k;
    }
