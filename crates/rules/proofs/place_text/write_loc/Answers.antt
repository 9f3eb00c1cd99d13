use Rattle.rules.proofs.PlaceTexts.{loc_short}
use Rattle.rules.proofs.TextOuts.{put_stored}
use Rattle.pack.proofs.Bounds.{records_bound}
use Rattle.rules.specs.Locs.{loc_text}
use borrow.Author.Rules.{rules}
use lib.ListN.{length}
use native.Mathlib.Omega.{arith}
use Prim.Native.Nat.{◌≤◌}
use Rattle.rules.proofs.place_text.write_loc.Goals as goal

pub returns : goal.returns
returns c =
    let p = c.args.pack.now in let text = loc_text p.bytes.now c.args.loc in
    let short : length text ≤ 18446744073709551615 = omega (arith, loc_short p.bytes.now c.args.loc, records_bound p.bytes.now p.work.now p.ready) in
    let x = put_stored c.args.text.now text _ _ short (rw c.new-out.ensures.text at c.put.ensures.written) in
    record { count = x.count; work = search (rules, x.work) }
