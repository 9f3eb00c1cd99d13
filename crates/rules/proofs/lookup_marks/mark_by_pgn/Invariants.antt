use Rattle.pack.specs.Loaded.{pgn_value}
use Rattle.pack.specs.Meaning.{pack_of}
use Rattle.pack.specs.Value.{field_at}
use Rattle.pack.specs.declared.loaded.PgnRef.{PgnRef}
use Rattle.rules.specs.LookupWiring.{ref_is}
use Rattle.rules.specs.Marks.{Marked}
use Rattle.rules.specs.Search.{any_below}
use Prim.Native.Nat.{ℕ}
use mathlib.Core.Bool.{Bool}
use mathlib.Core.List.{List}
use Rattle.rules.proofs.lookup_marks.mark_by_pgn.Given as goal

-- whether field k refers to the name
abbrev pub refers : PgnRef → List ℕ → ℕ → Bool
refers g name k = ref_is (field_at (pgn_value g) k).reference name

abbrev pub invariant-loop-k : goal.invariant-loop-k
invariant-loop-k l = Marked (pack_of l.pgn.pack.bytes.now) l.initial.marks (λ n. any_below (refers l.pgn n) l.k) l.marks
