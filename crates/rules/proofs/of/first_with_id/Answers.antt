use Rattle.rules.specs.SearchLaws.{first_hit}
use Rattle.pack.specs.Items.{bytes_of}
use mathlib.Core.Path.{sym}
use Rattle.rules.proofs.of.first_with_id.Invariants.{has}
use Rattle.rules.proofs.of.first_with_id.Goals as goal

pub returns-then-same_text : goal.returns-then-same_text
returns-then-same_text c =
    let s = c.args.s.now in
    sym (first_hit (has s c.args.t c.args.i (bytes_of s c.args.id)) c.args.n c.loop-j.j c.loop-j-test.true c.loop-j.invariant.none_yet
    (rw (← c.field_id_of-other.ensures, ← c.same_text.ensures) c.if-same_text.true))
