use Prim.Native.Nat.{◌*◌}
use mathlib.Core.Bool.{false≢true}
use Rattle.walk.proofs.Readings.{remembered_marked, none_passed, same_all}
use Rattle.walk.proofs.known.Memory.remember.Goals as goal

pub returns-then-m-eq0 : goal.returns-then-m-eq0
returns-then-m-eq0 c =
    rw c.mark-then-m-eq0.ensures
    (remembered_marked c.args.k _ c.requires.remembered (same_all (4 * c.args.k) _) (λ reading h. absurd (false≢true h)))

pub returns : goal.returns
returns c =
    let named = rw c.in-Some.is at c.requires.named in
    let collected = rw named.pack at c.collect-n.ensures.values in
    let all = rw named.pack at c.in-Some.lookup.is.entries in
    rw (c.mark-2.ensures, c.collect-n.ensures.marks) (remembered_marked c.args.k c.mark_of-new.result c.requires.remembered collected.others
    (none_passed c.requires.only named c.in-Some.lookup.view.entries c.mark_of-new.result collected all c.mark_of-new.ensures))
