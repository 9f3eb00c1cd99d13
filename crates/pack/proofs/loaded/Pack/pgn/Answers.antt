use Rattle.std.proofs.lemmas.Iterator.Consumers.{nth_from_yields_List, YieldsList-from_first}
use Rattle.pack.specs.Loaded.{pgn_spot, pgns_left}
use Rattle.pack.proofs.Turns.{numbered_at}
use mathlib.Core.Path.{◌∙◌}
use Rattle.pack.proofs.loaded.Pack.pgn.Goals as goal

pub returns : goal.returns
returns c =
    nth_from_yields_List c.nth.result c.nth.new.self c.args.item c.nth.ensures.ran (YieldsList-from_first pgn_spot pgns_left _ c.pgns.ensures)
    ∙ numbered_at _ _ c.args.item
