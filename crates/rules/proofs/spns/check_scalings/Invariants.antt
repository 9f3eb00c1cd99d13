use Rattle.rules.specs.Emit.{Reporting}
use Rattle.rules.specs.Spns.{spn_at}
use Rattle.rules.specs.declared.Finding.{Finding}
use Rattle.pack.specs.Loaded.{pgn_value}
use Rattle.pack.specs.Meaning.{pack_of}
use Rattle.pack.specs.Value.{field_at}
use Rattle.pack.specs.declared.loaded.PgnRef.{PgnRef}
use Prim.Native.Nat.{ℕ}
use mathlib.Core.List.{List}
use Rattle.rules.proofs.spns.check_scalings.Given as goal

-- the findings of field k
abbrev pub of_field : PgnRef → ℕ → List Finding
of_field g k = spn_at (pack_of g.pack.bytes.now).pgns_j1939 g.item k (field_at (pgn_value g) k).spn

abbrev pub invariant-loop-k : goal.invariant-loop-k
invariant-loop-k l = Reporting l.initial.out (of_field l.pgn) l.pgn.view.fields l.k l.out
