use native.Mathlib.Omega.{arith}
use mathlib.Core.Path.{sym, ◌∙◌}
use lib.ListN.{length}
use Rattle.pack.specs.Items.{bytes_of}
use Rattle.pack.specs.Loaded.{pgn_value}
use Rattle.rules.specs.SearchLaws.{any_hit}
use Rattle.rules.specs.SpnClashes.{other_in}
use Rattle.rules.proofs.spn_clashes.other_in.Invariants.{other}
use Rattle.rules.proofs.spn_clashes.other_in.Goals as goal

pub returns-then-other_spn : goal.returns-then-other_spn
unfolding other_in
returns-then-other_spn c =
    let g = c.args.pgn.now in let p = pgn_value g in
    sym (any_hit (other p (bytes_of g.pack.bytes.now c.args.name) c.args.spn) (length p.fields) c.loop-h.h
    (omega (arith, g.is.fields, c.loop-h-test.true)) (sym c.other_spn.ensures ∙ c.if-other_spn.true))
