use Rattle.rules.specs.Variants.{in_group, has_match, variant_at}
use Rattle.rules.specs.Search.{count_below}
use Rattle.rules.specs.Emit.{Emitted}
use Prim.Native.Nat.{ℕ, ◌≤◌}
use mathlib.Core.Path.{◌≡◌}
use mathlib.Core.Bool.{Bool, not, ◌&&◌}
use mathlib.Core.List.{List}
use lib.ListN.{length}
use Rattle.pack.specs.Notation.{concat_below}
use Rattle.pack.specs.Meaning.{pack_of}
use Rattle.pack.specs.Trees.{tree_number}
use Rattle.pack.specs.Value.{pgns_of, pgn_at}
use Rattle.rules.specs.declared.Finding.{Finding}
use Rattle.rules.proofs.PgnSearches.{Searched}
use Rattle.rules.proofs.variants.group_findings.Given as goal

-- the findings of PGN i
abbrev pub of_pgn : List ℕ → ℕ → ℕ → ℕ → List Finding
of_pgn s t number = variant_at t (pgns_of (pack_of s) t) number

-- whether PGN i is of the group and has no match
abbrev pub lacks : List ℕ → ℕ → ℕ → ℕ → Bool
lacks s t number i = in_group t (pgns_of (pack_of s) t) number i && not (has_match (pgn_at (pack_of s) t i) (length (pgn_at (pack_of s) t i).fields))

abbrev pub invariant-loop-pgn : goal.invariant-loop-pgn
invariant-loop-pgn l =
    let s = l.pack.bytes.now in let t = tree_number l.protocol in
    Searched s l.pack.work.now t (λ n. record {
      emitted : Emitted l.initial.out (concat_below (of_pgn s t l.number) n) l.out;
      few : l.without ≤ n;
      without : l.without ≡ count_below (lacks s t l.number) n;
    }) l.yielded l.pgn-iterator
