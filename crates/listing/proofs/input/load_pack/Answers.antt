use Rattle.pack.proofs.Accepted.{load_law, index_law}
use Rattle.pack.specs.Load.{loaded}
use Rattle.std.specs.Prelude.{◌≡◌, length, Ok}
use mathlib.Core.Path.{sym, ◌∙◌}
use Rattle.listing.proofs.input.load_pack.Goals as goal

pub invariant_of-result : goal.invariant_of-result
invariant_of-result c =
    let e : loaded c.args.bytes.now (length c.args.work.now) ≡ Ok c.in_ok-index.index = sym c.load.ensures.answer ∙ c.in_ok-index.was in
    let l = load_law c.args.bytes.now c.args.work.now c.in_ok-index.index e in
    record { ready = rw c.load.ensures.work l.0; indexed = rw l.1 (index_law c.args.bytes.now) }
