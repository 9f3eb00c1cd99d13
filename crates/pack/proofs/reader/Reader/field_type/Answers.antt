use Rattle.pack.proofs.ReaderLaws.{out}
use Rattle.pack.specs.Records.{read_type}
use Rattle.pack.proofs.ReaderLaws.{done, reads_then, reads_stop, sticks_then, sticks_give}
use Rattle.pack.proofs.ReaderItems.{sticks_code, sticks_float, sticks_number, sticks_text}
use Rattle.pack.proofs.reader.Reader.field_type.Goals as goal

pub returns-in_err-name : goal.returns-in_err-name
unfolding read_type
returns-in_err-name c =
    out _ c.from_residual.ensures.1 (reads_stop _ _ c.in_err-name.ensures (λ _. sticks_then _ _ (sticks_code _) (λ _. sticks_then _ _ sticks_number (λ _.
    sticks_then _ _ sticks_float (λ _. sticks_then _ _ sticks_text (λ _. sticks_give _))))))

pub returns-in_err-flags : goal.returns-in_err-flags
unfolding read_type
returns-in_err-flags c =
    out _ c.from_residual-in_err-flags.ensures.1 (reads_then _ _ c.in_ok-name.ensures (reads_stop _ _ c.in_err-flags.ensures (λ _. sticks_then _ _
    sticks_number (λ _. sticks_then _ _ sticks_float (λ _. sticks_then _ _ sticks_text (λ _. sticks_give _))))))

pub returns-in_err-size : goal.returns-in_err-size
unfolding read_type
returns-in_err-size c =
    out _ c.from_residual-in_err-size.ensures.1 (reads_then _ _ c.in_ok-name.ensures (reads_then _ _ c.in_ok-flags.ensures (reads_stop _ _ c.in_err-size.ensures
    (λ _. sticks_then _ _ sticks_float (λ _. sticks_then _ _ sticks_text (λ _. sticks_give _))))))

pub returns-in_err-resolution : goal.returns-in_err-resolution
unfolding read_type
returns-in_err-resolution c =
    out _ c.from_residual-in_err-resolution.ensures.1 (reads_then _ _ c.in_ok-name.ensures (reads_then _ _ c.in_ok-flags.ensures (reads_then _ _
    c.in_ok-size.ensures (reads_stop _ _
    c.in_err-resolution.ensures (λ _. sticks_then _ _ sticks_text (λ _. sticks_give _))))))

pub returns-in_err-root : goal.returns-in_err-root
unfolding read_type
returns-in_err-root c =
    out _ c.from_residual-in_err-root.ensures.1 (reads_then _ _ c.in_ok-name.ensures (reads_then _ _ c.in_ok-flags.ensures (reads_then _ _
    c.in_ok-size.ensures (reads_then _ _
    c.in_ok-resolution.ensures (reads_stop _ _ c.in_err-root.ensures (λ _. sticks_give _))))))

pub returns : goal.returns
unfolding read_type
returns c =
    reads_then _ _ c.in_ok-name.ensures (reads_then _ _ c.in_ok-flags.ensures (reads_then _ _ c.in_ok-size.ensures (reads_then _ _
    c.in_ok-resolution.ensures (reads_then _ _ c.in_ok-root.ensures (done _ _)))))
