use mathlib.Core.Path.{refl}
use borrow.Author.Tests.{lt-ltb, le-ltb}
use Rattle.pack.specs.Items.{finish}
use Rattle.pack.proofs.reader.Reader.finish.Goals as goal

pub returns-then-self : goal.returns-then-self
unfolding finish
returns-then-self c = record { answer = rw (lt-ltb _ _ c.if-self.true, c.refusal.ensures) refl }

pub returns : goal.returns
unfolding finish
returns c = record { answer = rw (le-ltb _ _ c.if-self.false) refl }
