use native.Mathlib.Omega.{arith}
use mathlib.Core.Path.{refl, ap, ◌∙◌}
use Rattle.std.specs.Prelude.{◌≡◌, length, take, drop, ◌-◌}
use lib.ListN.{length-drop}
use lib.Seq.{take_all}
use Rattle.pack.proofs.ReaderItems.{reads_float, float_cut}
use Rattle.pack.proofs.reader.Reader.float.Goals as goal

pub returns-in_default : goal.returns-in_default
returns-in_default c =
    let r = c.args.self in
    let l = length-drop r.at r.bytes.now in
    rw c.refusal.ensures (float_cut r r (omega (arith, c.in_default.ensures.cases, l, r.inside)) refl)

pub returns : goal.returns
returns c =
    let r = c.args.self in
    let s = r.bytes.now in
    let l = length-drop r.at s in
    let e : take (length s - r.at) (drop r.at s) ≡ drop r.at s = take_all _ _ (omega (arith, l)) in
    rw c.from_le_bytes.ensures
    (reads_float r _ _ (omega (arith, c.in-Some.ensures.cases.enough, l, r.inside)) (c.in-Some.ensures.cases.same ∙ ap (take 8) e) refl refl)
