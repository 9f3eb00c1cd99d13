use Rattle.walk.proofs.Parts.{still_given}
use Rattle.walk.specs.Layout.{layout}
use Rattle.pack.proofs.Few.{fields_few}
use Rattle.pack.specs.Loaded.{pgn_value}
use native.Mathlib.Omega.{arith}
use Rattle.std.proofs.lemmas.Option.{IfSome_then}
use mathlib.Core.Path.{sym, ◌∙◌}
use Rattle.walk.proofs.held.latest_giver.Goals as goal

pub still_gives-requires : goal.still_gives-requires
still_gives-requires c =
    record {
      giver = IfSome_then c.args.giver c.requires.source.before (λ g h. omega (arith, h, c.requires.field, fields_few c.args.found.now.pgn.at));
      field = omega (arith, c.requires.field, fields_few c.args.found.now.pgn.at);
    }

pub returns-then-still_gives : goal.returns-then-still_gives
returns-then-still_gives c =
    let L = layout (pgn_value c.args.found.now.pgn) in
    record {
      given = still_given c.args.giver c.requires.source L (sym (c.still_gives.ensures L c.args.found.now.sets_are) ∙ c.if-still_gives.true);
      source = c.requires.source;
    }
