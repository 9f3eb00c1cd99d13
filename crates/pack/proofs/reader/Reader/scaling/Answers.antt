use Rattle.pack.proofs.ReaderLaws.{out}
use Rattle.pack.specs.Records.{read_scaling}
use Rattle.pack.proofs.ReaderLaws.{done, reads_then, reads_stop, sticks_then, sticks_give}
use Rattle.pack.proofs.ReaderItems.{sticks_float, sticks_optional, sticks_text}
use Rattle.pack.proofs.reader.Reader.scaling.Goals as goal

pub returns-in_err-bits : goal.returns-in_err-bits
unfolding read_scaling
returns-in_err-bits c =
    out _ c.from_residual.ensures.1 (reads_stop _ _ c.in_err-bits.ensures (λ _. sticks_then _ _ sticks_float (λ _. sticks_then _ _ sticks_float (λ _.
    sticks_then _ _ (sticks_optional _ sticks_text) (λ _. sticks_give _)))))

pub returns-in_err-resolution : goal.returns-in_err-resolution
unfolding read_scaling
returns-in_err-resolution c =
    out _ c.from_residual-in_err-resolution.ensures.1 (reads_then _ _ c.in_ok-bits.ensures (reads_stop _ _ c.in_err-resolution.ensures (λ _. sticks_then _ _
    sticks_float (λ _. sticks_then _ _ (sticks_optional _ sticks_text) (λ _. sticks_give _)))))

pub returns-in_err-offset : goal.returns-in_err-offset
unfolding read_scaling
returns-in_err-offset c =
    out _ c.from_residual-in_err-offset.ensures.1 (reads_then _ _ c.in_ok-bits.ensures (reads_then _ _ c.in_ok-resolution.ensures (reads_stop _ _
    c.in_err-offset.ensures
    (λ _. sticks_then _ _ (sticks_optional _ sticks_text) (λ _. sticks_give _)))))

pub returns-in_err-unit : goal.returns-in_err-unit
unfolding read_scaling
returns-in_err-unit c =
    out _ c.from_residual-in_err-unit.ensures.1 (reads_then _ _ c.in_ok-bits.ensures (reads_then _ _ c.in_ok-resolution.ensures (reads_then _ _
    c.in_ok-offset.ensures (reads_stop _ _
    c.in_err-unit.ensures (λ _. sticks_give _)))))

pub returns : goal.returns
unfolding read_scaling
returns c =
    reads_then _ _ c.in_ok-bits.ensures (reads_then _ _ c.in_ok-resolution.ensures (reads_then _ _ c.in_ok-offset.ensures (reads_then _ _
    c.in_ok-unit.ensures (done _ _))))
