use Rattle.pack.specs.Items.{bytes_of}
use Rattle.pack.specs.Meaning.{pack_of}
use Rattle.rules.specs.LookupWiring.{referenced_by_tree}
use Rattle.rules.specs.Search.{any_below}
use Prim.Native.Nat.{ℕ}
use mathlib.Core.Bool.{Bool, false}
use mathlib.Core.List.{List}
use mathlib.Core.Path.{◌≡◌}
use Rattle.rules.proofs.lookup_uses.referenced_by_trees.Given as goal

-- whether tree t references the name
abbrev pub has : List ℕ → List ℕ → ℕ → Bool
has s name t = referenced_by_tree (pack_of s) name t

abbrev pub invariant-loop-protocol : goal.invariant-loop-protocol
invariant-loop-protocol l = any_below (has l.pack.bytes.now (bytes_of l.pack.bytes.now l.name)) l.protocol-index ≡ false
