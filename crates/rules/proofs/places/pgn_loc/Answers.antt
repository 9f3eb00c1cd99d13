use Rattle.rules.proofs.PlaceTexts.{some_then, tree_read}
use Rattle.rules.specs.Locs.{pgn_text}
use Rattle.rules.specs.PlaceText.{pgn_loc}
use Rattle.pack.proofs.Turns.{pgn_there}
use Rattle.pack.specs.Meaning.{pack_of}
use Rattle.pack.specs.Notation.{◌<ᵇ◌}
use Rattle.pack.specs.Trees.{tree_number}
use Rattle.pack.specs.Value.{Pgn, pgns_of}
use lib.ListN.{length}
use mathlib.Core.Path.{ap, sym, ◌∙◌}
use Rattle.rules.proofs.places.pgn_loc.Goals as goal

pub returns : goal.returns
unfolding pgn_loc pgn_text
returns c =
    let P = pack_of c.args.pack.now.bytes.now in
    let p = c.in_ok-protocol.protocol in
    let t = tree_read c.args.tree p (sym c.in_ok-protocol.was ∙ c.from_number.ensures) in
    let y = rw c.in_ok-pgn.was at c.pgn.ensures in
    let x = some_then (c.args.item <ᵇ length (pgns_of P (tree_number p))) y in
    let m = pgn_there c.in_ok-pgn.pgn x.1 in
    rw (t.1, ← t.0, x.0, ← ap (λ (G : Pgn). G.pgn) m.means, ← ap (λ (G : Pgn). G.id) m.means)
