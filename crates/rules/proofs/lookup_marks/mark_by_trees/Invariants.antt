use Rattle.pack.specs.Meaning.{pack_of}
use Rattle.rules.specs.LookupWiring.{referenced_by_tree}
use Rattle.rules.specs.Marks.{Marked}
use Rattle.rules.specs.Search.{any_below}
use Prim.Native.Nat.{ℕ}
use mathlib.Core.Bool.{Bool}
use mathlib.Core.List.{List}
use Rattle.rules.proofs.lookup_marks.mark_by_trees.Given as goal

-- whether tree t references the name
abbrev pub has : List ℕ → List ℕ → ℕ → Bool
has s name t = referenced_by_tree (pack_of s) name t

abbrev pub invariant-loop-protocol : goal.invariant-loop-protocol
invariant-loop-protocol l =
    let s = l.pack.bytes.now in Marked (pack_of s) l.initial.marks (λ n. any_below (has s n) l.protocol-index) l.marks
