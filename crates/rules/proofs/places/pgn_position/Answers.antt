use Rattle.pack.proofs.Few.{fields_few}
use Rattle.pack.specs.Meaning.{pack_of}
use Rattle.pack.specs.Ready.{Ready, PgnAt, place_of_pgn}
use Rattle.pack.specs.Value.{pgns_of}
use Prim.Native.Nat.{ℕ, ◌<◌}
use native.Mathlib.Numerals.{add-one}
use native.Mathlib.Omega.{arith}
use mathlib.Core.List.{List}
use mathlib.Core.Path.{◌≡◌}
use lib.ListN.{length}
use Rattle.rules.proofs.places.pgn_position.Goals as goal

-- a PGN before the one that is looked for
earlier : {s w : List ℕ} {t item i p : ℕ} → Ready s w → t < 3 → item < length (pgns_of (pack_of s) t) → i < item → p ≡ place_of_pgn (pack_of s) t i
    → PgnAt s w t i p
earlier r t n h e = record { ready = r; tree = t; pgn = omega (arith, n, h); place = e }

pub overflow_add-p : goal.overflow_add-p
overflow_add-p c =
    omega (arith, fields_few (earlier c.requires.ready c.requires.trees c.requires.item c.loop-i-test.true c.loop-i.invariant))

pub overflow_add-p-in-loop-i : goal.overflow_add-p-in-loop-i
overflow_add-p-in-loop-i c =
    omega (
      arith,
      c.pgn_of-g.ensures.fields,
      fields_few (earlier c.requires.ready c.requires.trees c.requires.item c.loop-i-test.true c.loop-i.invariant),
    )

pub loop-i-preserved : goal.loop-i-preserved
loop-i-preserved c = rw (add-one c.loop-i.i) (omega (arith, c.pgn_of-g.ensures.fields, c.loop-i.invariant))
