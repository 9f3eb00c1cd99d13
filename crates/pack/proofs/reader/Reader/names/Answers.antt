use Rattle.pack.proofs.ReaderLaws.{out}
use Rattle.pack.specs.Records.{read_names}
use Rattle.pack.proofs.ReaderLaws.{done, reads_then, reads_stop, sticks_then, sticks_give}
use Rattle.pack.proofs.ReaderItems.{sticks_text}
use Rattle.pack.proofs.reader.Reader.names.Goals as goal

pub returns-in_err-id : goal.returns-in_err-id
unfolding read_names
returns-in_err-id c =
    out _ c.from_residual.ensures.1 (reads_stop _ _ c.in_err-id.ensures (λ _. sticks_then _ _ sticks_text (λ _. sticks_then _ _ sticks_text (λ _.
    sticks_give _))))

pub returns-in_err-name : goal.returns-in_err-name
unfolding read_names
returns-in_err-name c =
    out _ c.from_residual-in_err-name.ensures.1 (reads_then _ _ c.in_ok-id.ensures (reads_stop _ _ c.in_err-name.ensures (λ _. sticks_then _ _
    sticks_text (λ _. sticks_give _))))

pub returns-in_err-kind : goal.returns-in_err-kind
unfolding read_names
returns-in_err-kind c =
    out _ c.from_residual-in_err-kind.ensures.1 (reads_then _ _ c.in_ok-id.ensures (reads_then _ _ c.in_ok-name.ensures (reads_stop _ _ c.in_err-kind.ensures
    (λ _. sticks_give _))))

pub returns : goal.returns
unfolding read_names
returns c = reads_then _ _ c.in_ok-id.ensures (reads_then _ _ c.in_ok-name.ensures (reads_then _ _ c.in_ok-kind.ensures (done _ _)))
