use Rattle.std.specs.Bool.{then_some}
use Rattle.pack.specs.Value.{Pgn, pgn_at}
use Rattle.rules.specs.Search.{min_below}
use Prim.Native.Nat.{ℕ}
use mathlib.Core.Path.{◌≡◌}
use mathlib.Core.Bool.{not, ◌&&◌}
use Rattle.std.specs.Prelude.{Option}
use Rattle.pack.specs.Notation.{◌≤ᵇ◌}
use Rattle.pack.specs.Meaning.{pack_of}
use Rattle.pack.specs.Trees.{tree_number}
use Rattle.rules.proofs.PgnSearches.{Searched}
use Rattle.rules.proofs.variants.least_group.Given as goal

-- the number of a PGN, where it counts
abbrev pub counts : Pgn → ℕ → Option ℕ
counts p b = then_some (not p.fallback && (b ≤ᵇ p.pgn)) p.pgn

abbrev pub invariant-loop-pgn : goal.invariant-loop-pgn
invariant-loop-pgn l =
    let t = tree_number l.fn.protocol in
    Searched l.pack.bytes.now l.pack.work.now t (λ n. l.found ≡ min_below (λ i. counts (pgn_at (pack_of l.pack.bytes.now) t i) l.b) n) l.yielded
    l.pgn-iterator
