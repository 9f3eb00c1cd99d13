use Rattle.pack.proofs.ReaderLaws.{out}
use Rattle.pack.specs.Records.{read_lookup}
use Rattle.pack.proofs.ReaderLaws.{done, reads_then, reads_stop, sticks_then, sticks_give}
use Rattle.pack.proofs.ReaderItems.{sticks_code, sticks_number}
use Rattle.pack.proofs.reader.Reader.lookup.Goals as goal

pub returns-in_err-name : goal.returns-in_err-name
unfolding read_lookup
returns-in_err-name c =
    out _ c.from_residual.ensures.1 (reads_stop _ _ c.in_err-name.ensures (λ _. sticks_then _ _ (sticks_code _) (λ _. sticks_then _ _ sticks_number (λ _.
    sticks_then _ _ sticks_number (λ _. sticks_give _)))))

pub returns-in_err-kind : goal.returns-in_err-kind
unfolding read_lookup
returns-in_err-kind c =
    out _ c.from_residual-in_err-kind.ensures.1 (reads_then _ _ c.in_ok-name.ensures (reads_stop _ _ c.in_err-kind.ensures (λ _. sticks_then _ _
    sticks_number (λ _. sticks_then _ _ sticks_number (λ _. sticks_give _)))))

pub returns-in_err-bits : goal.returns-in_err-bits
unfolding read_lookup
returns-in_err-bits c =
    out _ c.from_residual-in_err-bits.ensures.1 (reads_then _ _ c.in_ok-name.ensures (reads_then _ _ c.in_ok-kind.ensures (reads_stop _ _ c.in_err-bits.ensures
    (λ _. sticks_then _ _ sticks_number (λ _. sticks_give _)))))

pub returns-in_err-entries : goal.returns-in_err-entries
unfolding read_lookup
returns-in_err-entries c =
    out _ c.from_residual-in_err-entries.ensures.1 (reads_then _ _ c.in_ok-name.ensures (reads_then _ _ c.in_ok-kind.ensures (reads_then _ _
    c.in_ok-bits.ensures (reads_stop _ _
    c.in_err-entries.ensures (λ _. sticks_give _)))))

pub returns : goal.returns
unfolding read_lookup
returns c =
    rw c.of.ensures (reads_then _ _ c.in_ok-name.ensures (reads_then _ _ c.in_ok-kind.ensures (reads_then _ _ c.in_ok-bits.ensures (reads_then _ _
    c.in_ok-entries.ensures (done _ _)))))
