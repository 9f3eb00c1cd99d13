use Rattle.walk.proofs.Parts.{a_value}
use Rattle.walk.specs.Layout.{layout}
use Rattle.pack.specs.Loaded.{pgn_value}
use Rattle.pack.specs.Meaning.{pack_of}
use Rattle.std.specs.Prelude.{is_some}
use borrow.Author.Rules.{rules}
use mathlib.Core.Bool.{not}
use mathlib.Core.Path.{◌≡◌, sym, ◌∙◌}
use Rattle.walk.proofs.stops.lacks_length.Goals as goal

pub returns-then-is_value : goal.returns-then-is_value
returns-then-is_value c =
    let P = pack_of c.args.found.now.pgn.pack.bytes.now in let p = pgn_value c.args.found.now.pgn in
    let g = is_some c.length_giver.result in
    let e : c.is_none.result ≡ not g = search rules in
    let value = rw c.requires at c.is_value.ensures in
    e ∙ sym (a_value P p (layout p) c.args.field.now.index c.is_value.result value c.if-is_value.true g c.length_giver.ensures.given)
