use Rattle.pack.proofs.Places.{along_none, along_then, placed, refused, past_out, list_stays}
use Rattle.pack.specs.Items.{fresh}
use native.Mathlib.Numerals.{add-one}
use native.Mathlib.Omega.{arith}
use mathlib.Core.Path.{◌≡◌, refl}
use Rattle.pack.proofs.load.place_list.Goals as goal

pub loop-i-init : goal.loop-i-init
loop-i-init g c = along_none _ _

pub loop-i-preserved : goal.loop-i-preserved
loop-i-preserved g c = rw add-one (along_then c.loop-i.invariant c.in_ok-next.ensures)

pub returns-in_err-next : goal.returns-in_err-next
returns-in_err-next g c =
    past_out _ c.from_residual.ensures.1 (refused c.loop-i.invariant c.in_err-next.ensures.reads
    (list_stays c.requires c.args.reader.bytes.now (fresh c.args.reader.at) c.loop-i._i c.args.n c.loop-i-test.true))

pub returns : goal.returns
returns g c =
    let e : c.loop-i._i ≡ c.args.n = omega (arith, c.loop-i.auto._i-end, c.loop-i-test.false) in
    placed _ _ {v = c.loop-i.offsets} (rw e at c.loop-i.invariant) refl
