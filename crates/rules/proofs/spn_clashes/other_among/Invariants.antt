use Prim.Native.Nat.{ℕ, ◌≤◌}
use mathlib.Core.Path.{◌≡◌}
use mathlib.Core.Bool.{Bool, false}
use Rattle.pack.specs.Items.{bytes_of}
use Rattle.pack.specs.Loaded.{tree_of}
use Rattle.pack.specs.Meaning.{pack_of}
use Rattle.pack.specs.Value.{Bytes, pgn_at}
use Rattle.pack.specs.declared.loaded.PgnRef.{PgnRef}
use Rattle.rules.specs.Search.{any_below}
use Rattle.rules.specs.SpnClashes.{other_in}
use Rattle.rules.proofs.PgnSearches.{Searched}
use Rattle.rules.proofs.spn_clashes.other_among.Given as goal

-- whether a field of PGN j of the same tree has the name, and carries another SPN
abbrev pub has : PgnRef → Bytes → ℕ → ℕ → Bool
has g name spn j = other_in name spn (pgn_at (pack_of g.pack.bytes.now) (tree_of g) j)

abbrev pub invariant-loop-earlier : goal.invariant-loop-earlier
invariant-loop-earlier l =
    Searched l.pgn.pack.bytes.now l.pgn.pack.work.now (tree_of l.pgn)
    (λ n. record { before : n ≤ l.pgn.item; none_yet : any_below (has l.pgn (bytes_of l.pgn.pack.bytes.now l.name) l.spn) n ≡ false }) l.yielded
    l.earlier-iterator
