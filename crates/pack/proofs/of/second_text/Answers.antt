use Rattle.pack.specs.Items.{Item}
use Rattle.pack.specs.Reads.{outcome}
use Rattle.pack.specs.Records.{read_second_text}
use Rattle.pack.specs.declared.reader.InputRefusal.{InputRefusal}
use Rattle.pack.proofs.ReaderLaws.{reads_then, reads_stop}
use Rattle.pack.proofs.ReaderItems.{sticks_text}
use Rattle.std.proofs.lemmas.Result.{err_from_is_err_and}
use Rattle.std.specs.Prelude.{Result, Err, ◌≡◌}
use Rattle.std.specs.Result.{IsErrAnd}
use mathlib.Core.Path.{◌∙◌}
use Rattle.pack.proofs.of.second_text.Goals as goal

-- where a `?` returns
refused : {A : Type 0} (r : Result A InputRefusal) (f : InputRefusal) (i : Item A) → IsErrAnd r (λ y. y ≡ f) → Err f ≡ outcome i → r ≡ outcome i
refused r f i e h = let x = err_from_is_err_and {Q = λ y. y ≡ f} r e in x.1 ∙ (rw x.2) ∙ h

pub returns-in_err-next : goal.returns-in_err-next
unfolding read_second_text
returns-in_err-next c = refused _ _ _ c.from_residual.ensures.1 (reads_stop _ _ c.in_err-next.ensures (λ _. sticks_text)).answer

pub returns-in_err-text : goal.returns-in_err-text
unfolding read_second_text
returns-in_err-text c = refused _ _ _ c.from_residual-in_err-text.ensures.1 (reads_then _ _ c.in_ok-next.ensures c.in_err-text.ensures).answer

pub returns : goal.returns
unfolding read_second_text
returns c = (reads_then _ _ c.in_ok-next.ensures c.in_ok-text.ensures).answer
