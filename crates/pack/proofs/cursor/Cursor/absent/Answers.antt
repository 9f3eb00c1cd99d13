use borrow.Author.Tests.{eqb-true}
use mathlib.Core.Bool.{false≢true}
use Rattle.pack.proofs.Short.{no_item}
use Rattle.pack.proofs.cursor.Cursor.absent.Goals as goal

pub returns-then-at-s : goal.returns-then-at-s
returns-then-at-s c =
    record {
      inside = λ e. c.if-at-s.true;
      mark = λ e. no_item c.args.s.now c.args.self c.if-self-eq0.true c.if-at-s.true (eqb-true _ _ e);
    }

pub returns-else-at-s : goal.returns-else-at-s
returns-else-at-s c = record { inside = λ e. absurd (false≢true e); mark = λ e. absurd (false≢true e) }

pub returns-else-self-eq0 : goal.returns-else-self-eq0
returns-else-self-eq0 c = record { inside = λ e. absurd (false≢true e); mark = λ e. absurd (false≢true e) }
