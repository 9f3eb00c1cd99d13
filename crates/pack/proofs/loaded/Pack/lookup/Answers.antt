use Rattle.std.proofs.lemmas.Iterator.Consumers.{nth_from_yields_List, YieldsList-from_first}
use Rattle.pack.specs.Loaded.{lookup_spot, lookups_left}
use Rattle.pack.proofs.Turns.{numbered_at}
use mathlib.Core.Path.{◌∙◌}
use Rattle.pack.proofs.loaded.Pack.lookup.Goals as goal

pub returns : goal.returns
returns c =
    nth_from_yields_List c.nth.result c.nth.new.self c.args.item c.nth.ensures.ran (YieldsList-from_first lookup_spot lookups_left _ c.lookups.ensures)
    ∙ numbered_at _ _ c.args.item
