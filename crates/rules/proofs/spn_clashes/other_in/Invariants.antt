use Prim.Native.Nat.{ℕ}
use mathlib.Core.Path.{◌≡◌}
use mathlib.Core.Bool.{Bool, false}
use Rattle.pack.specs.Items.{bytes_of}
use Rattle.pack.specs.Loaded.{pgn_value}
use Rattle.pack.specs.Value.{Bytes, Pgn, field_at}
use Rattle.rules.specs.Search.{any_below}
use Rattle.rules.specs.SpnClashes.{other_spn}
use Rattle.rules.proofs.spn_clashes.other_in.Given as goal

-- whether field h has the name, and carries another SPN
abbrev pub other : Pgn → Bytes → ℕ → ℕ → Bool
other p name spn h = other_spn name spn (field_at p h).name (field_at p h).spn

abbrev pub invariant-loop-h : goal.invariant-loop-h
invariant-loop-h l = any_below (other (pgn_value l.pgn) (bytes_of l.pgn.pack.bytes.now l.name) l.spn) l.h ≡ false
