use Rattle.walk.proofs.Parts.{gives}
use Rattle.walk.specs.Layout.{layout}
use Rattle.walk.specs.declared.named.FoundPgn.{FoundPgn}
use Rattle.rules.specs.Search.{any_below}
use Prim.Native.Nat.{ℕ}
use mathlib.Core.Path.{◌≡◌}
use mathlib.Core.Bool.{Bool, false}
use Rattle.pack.specs.Loaded.{pgn_value}
use Rattle.pack.specs.Meaning.{pack_of}
use Rattle.walk.proofs.stops.length_giver.Given as goal

abbrev pub gives_at : FoundPgn → ℕ → ℕ → Bool
gives_at f k = gives (pack_of f.pgn.pack.bytes.now) (pgn_value f.pgn) (layout (pgn_value f.pgn)) k

abbrev pub invariant-loop-j : goal.invariant-loop-j
invariant-loop-j l = record { none_yet : any_below (gives_at l.found l.k) l.j ≡ false }
