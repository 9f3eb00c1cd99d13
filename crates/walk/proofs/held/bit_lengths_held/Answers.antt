use Rattle.rules.specs.SearchLaws.{every_missed}
use Rattle.walk.specs.Held.{bit_length_held}
use native.Mathlib.Omega.{arith}
use mathlib.Core.Path.{sym, ◌∙◌}
use lib.ListN.{length}
use Rattle.pack.specs.Loaded.{pgn_value}
use Rattle.walk.proofs.held.bit_lengths_held.Goals as goal

pub returns-then-not-bit_length_held : goal.returns-then-not-bit_length_held
returns-then-not-bit_length_held c =
    let p = pgn_value c.args.found.now.pgn in
    sym (every_missed (bit_length_held p) (length p.fields) c.loop-k.k
    (omega (arith, c.args.found.now.pgn.is.fields, c.loop-k-test.true))
    (sym c.bit_length_held.ensures ∙ c.if-not-bit_length_held.true))
