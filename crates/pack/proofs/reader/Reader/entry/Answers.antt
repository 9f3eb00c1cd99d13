use Rattle.pack.proofs.ReaderLaws.{out}
use Rattle.pack.specs.Records.{read_entry}
use Rattle.pack.proofs.ReaderLaws.{done, reads_then, reads_stop, sticks_then, sticks_give}
use Rattle.pack.proofs.ReaderItems.{sticks_kind_part, sticks_text, sticks_wide}
use Rattle.pack.proofs.reader.Reader.entry.Goals as goal

pub returns-in_err-first : goal.returns-in_err-first
unfolding read_entry
returns-in_err-first c =
    out _ c.from_residual.ensures.1 (reads_stop _ _ c.in_err-first.ensures (λ _. sticks_then _ _ (sticks_wide _) (λ _. sticks_then _ _ sticks_text (λ _.
    sticks_then _ _ (sticks_kind_part _) (λ _. sticks_give _)))))

pub returns-in_err-value : goal.returns-in_err-value
unfolding read_entry
returns-in_err-value c =
    out _ c.from_residual-in_err-value.ensures.1 (reads_then _ _ c.in_ok-first.ensures (reads_stop _ _ c.in_err-value.ensures.read (λ _. sticks_then _ _
    sticks_text (λ _. sticks_then _ _ (sticks_kind_part _) (λ _. sticks_give _)))))

pub returns-in_err-name : goal.returns-in_err-name
unfolding read_entry
returns-in_err-name c =
    out _ c.from_residual-in_err-name.ensures.1 (reads_then _ _ c.in_ok-first.ensures (reads_then _ _ c.in_ok-value.ensures.read (reads_stop _ _
    c.in_err-name.ensures
    (λ _. sticks_then _ _ (sticks_kind_part _) (λ _. sticks_give _)))))

pub returns-in_err-rest : goal.returns-in_err-rest
unfolding read_entry
returns-in_err-rest c =
    out _ c.from_residual-in_err-rest.ensures.1 (reads_then _ _ c.in_ok-first.ensures (reads_then _ _ c.in_ok-value.ensures.read (reads_then _ _
    c.in_ok-name.ensures (reads_stop _ _
    c.in_err-rest.ensures (λ _. sticks_give _)))))

pub returns : goal.returns
unfolding read_entry
returns c =
    reads_then _ _ c.in_ok-first.ensures (reads_then _ _ c.in_ok-value.ensures.read (reads_then _ _ c.in_ok-name.ensures (reads_then _ _
    c.in_ok-rest.ensures (done _ _))))
