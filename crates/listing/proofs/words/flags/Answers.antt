use Rattle.listing.proofs.Flags.{is_set, not_set}
use Rattle.listing.proofs.words.flags.Goals.{then-set+in_ok-write, else-set}
use Rattle.listing.specs.Words.{set_flags}
use Rattle.std.proofs.KnownBytes.{Appends-nil}
use Rattle.std.proofs.lemmas.List.{take_all}
use Rattle.std.specs.Io.KnownBytes.{Appends}
use mathlib.Core.Path.{ap, refl, subst}
use Rattle.listing.proofs.words.flags.Goals as goal

pub loop-set-init : goal.loop-set-init
loop-set-init g c = Appends-nil _

pub loop-set-preserved : goal.loop-set-preserved
loop-set-preserved g c =
    let fs = c.args.flags.now in
    let i = c.loop-set.set-index in
    elim c.if-set.branch [
      | then-set+in_ok-write w ↦
          rw w.out-is (is_set _ _ _ fs i _ c.loop-set-test.true w.if-set.true c.loop-set.invariant w.in_ok-write.ensures.bytes)
      | else-set w ↦ rw w.out-is (not_set _ _ _ fs i _ c.loop-set-test.true w.if-set.false c.loop-set.invariant refl)
    ]

pub returns : goal.returns
returns g c =
    let all = ap set_flags (take_all c.loop-set.set-index c.args.flags.now c.loop-set-test.false) in
    subst (Appends _ _) all c.loop-set.invariant
