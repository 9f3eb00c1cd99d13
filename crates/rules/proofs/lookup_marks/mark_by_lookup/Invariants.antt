use Rattle.pack.specs.Loaded.{lookup_value}
use Rattle.pack.specs.Meaning.{pack_of}
use Rattle.pack.specs.Value.{entry_at}
use Rattle.pack.specs.declared.loaded.LookupRef.{LookupRef}
use Rattle.rules.specs.Marks.{Marked}
use Rattle.rules.specs.Model.{is_text}
use Rattle.rules.specs.Search.{any_below}
use Prim.Native.Nat.{ℕ}
use mathlib.Core.Bool.{Bool}
use mathlib.Core.List.{List}
use Rattle.rules.proofs.lookup_marks.mark_by_lookup.Given as goal

-- whether entry e nests the name
abbrev pub nests : LookupRef → List ℕ → ℕ → Bool
nests x name e = is_text (entry_at (lookup_value x).entries e).nested name

abbrev pub invariant-loop-e : goal.invariant-loop-e
invariant-loop-e l = Marked (pack_of l.lookup.pack.bytes.now) l.initial.marks (λ n. any_below (nests l.lookup n) l.e) l.marks
