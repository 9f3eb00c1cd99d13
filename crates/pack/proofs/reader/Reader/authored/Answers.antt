use Rattle.pack.proofs.ReaderLaws.{out}
use Rattle.pack.specs.Records.{read_authored}
use Rattle.pack.proofs.ReaderLaws.{done, reads_then, reads_stop, sticks_then, sticks_give}
use Rattle.pack.proofs.ReaderItems.{sticks_float, sticks_number, sticks_optional, sticks_text}
use Rattle.pack.proofs.reader.Reader.authored.Goals as goal

pub returns-in_err-resolution : goal.returns-in_err-resolution
unfolding read_authored
returns-in_err-resolution c =
    out _ c.from_residual.ensures.1 (reads_stop _ _ c.in_err-resolution.ensures (λ _. sticks_then _ _ (sticks_optional _ sticks_float) (λ _. sticks_then _ _
    (sticks_optional _ sticks_number) (λ _. sticks_then _ _ (sticks_optional _ sticks_text) (λ _. sticks_then _ _ (sticks_optional _ sticks_text) (λ
    _. sticks_give _))))))

pub returns-in_err-offset : goal.returns-in_err-offset
unfolding read_authored
returns-in_err-offset c =
    out _ c.from_residual-in_err-offset.ensures.1 (reads_then _ _ c.in_ok-resolution.ensures (reads_stop _ _ c.in_err-offset.ensures (λ _. sticks_then
    _ _ (sticks_optional _ sticks_number) (λ _. sticks_then _ _ (sticks_optional _ sticks_text) (λ _. sticks_then _ _ (sticks_optional _ sticks_text)
    (λ _. sticks_give _))))))

pub returns-in_err-spn : goal.returns-in_err-spn
unfolding read_authored
returns-in_err-spn c =
    out _ c.from_residual-in_err-spn.ensures.1 (reads_then _ _ c.in_ok-resolution.ensures (reads_then _ _ c.in_ok-offset.ensures (reads_stop _ _
    c.in_err-spn.ensures
    (λ _. sticks_then _ _ (sticks_optional _ sticks_text) (λ _. sticks_then _ _ (sticks_optional _
    sticks_text) (λ _. sticks_give _))))))

pub returns-in_err-continues : goal.returns-in_err-continues
unfolding read_authored
returns-in_err-continues c =
    out _ c.from_residual-in_err-continues.ensures.1 (reads_then _ _ c.in_ok-resolution.ensures (reads_then _ _ c.in_ok-offset.ensures (reads_then _
    _ c.in_ok-spn.ensures (reads_stop _ _
    c.in_err-continues.ensures (λ _. sticks_then _ _ (sticks_optional _ sticks_text) (λ _. sticks_give
    _))))))

pub returns-in_err-matched : goal.returns-in_err-matched
unfolding read_authored
returns-in_err-matched c =
    out _ c.from_residual-in_err-matched.ensures.1 (reads_then _ _ c.in_ok-resolution.ensures (reads_then _ _ c.in_ok-offset.ensures (reads_then _ _
    c.in_ok-spn.ensures (reads_then _ _
    c.in_ok-continues.ensures (reads_stop _ _ c.in_err-matched.ensures (λ _. sticks_give _))))))

pub returns : goal.returns
unfolding read_authored
returns c =
    reads_then _ _ c.in_ok-resolution.ensures (reads_then _ _ c.in_ok-offset.ensures (reads_then _ _ c.in_ok-spn.ensures (reads_then _ _
    c.in_ok-continues.ensures (reads_then _ _ c.in_ok-matched.ensures (done _ _)))))
