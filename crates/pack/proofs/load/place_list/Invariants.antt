use Rattle.pack.specs.Items.{fresh}
use Rattle.pack.specs.Notation.{concat_below}
use Rattle.pack.specs.Format.{iter}
use Rattle.pack.proofs.Places.{Along}
use Rattle.pack.proofs.load.place_list.Given as goal

abbrev pub invariant-loop-i : goal.invariant-loop-i
invariant-loop-i g l =
    let s = l.initial.next.bytes.now in
    let k = fresh l.initial.next.at in
    let m = g.R.Listed in
    Along l.initial.next l.initial.offsets (iter (m.end l.each s) k l._i) (concat_below (λ i. m.starts l.each s (iter (m.end l.each s) k i)) l._i)
    l.next l.offsets
