use Rattle.rules.specs.Emit.{Reporting}
use Rattle.rules.specs.Search.{ranked}
use Rattle.rules.specs.Variants.{least_group, group_findings}
use Prim.Native.Nat.{ℕ}
use mathlib.Core.Path.{◌≡◌}
use mathlib.Core.List.{List}
use Rattle.std.specs.Prelude.{Option}
use Rattle.pack.specs.Meaning.{pack_of}
use Rattle.pack.specs.Trees.{tree_number}
use Rattle.pack.specs.Value.{pgns_of}
use Rattle.rules.specs.declared.Finding.{Finding}
use Rattle.rules.proofs.variants.check_variants.Given as goal

abbrev pub least : List ℕ → ℕ → ℕ → Option ℕ
least s t = least_group t (pgns_of (pack_of s) t)

-- the findings of the group of a rank
abbrev pub of_rank : List ℕ → ℕ → ℕ → List Finding
of_rank s t r = group_findings t (pgns_of (pack_of s) t) (ranked (least s t) r)

abbrev pub invariant-loop-r : goal.invariant-loop-r
invariant-loop-r l =
    let s = l.pack.bytes.now in let t = tree_number l.protocol in
    record {
      reporting : Reporting l.initial.out (of_rank s t) l.count l.r l.out;
      ranked : ranked (least s t) l.r ≡ least s t l.b;
    }
