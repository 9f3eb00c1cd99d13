use Rattle.pack.proofs.ReaderLaws.{out}
use Rattle.pack.specs.Records.{read_field}
use Rattle.pack.proofs.ReaderLaws.{done, reads_then, reads_stop, sticks_then, sticks_give}
use Rattle.pack.proofs.ReaderItems.{sticks_authored, sticks_code, sticks_index, sticks_links, sticks_scaling}
use Rattle.pack.proofs.reader.Reader.field.Goals as goal

pub returns-in_err-names : goal.returns-in_err-names
unfolding read_field
returns-in_err-names c =
    out _ c.from_residual.ensures.1 (reads_stop _ _ c.in_err-names.ensures (λ _. sticks_then _ _ (sticks_index _) (λ _. sticks_then _ _ (sticks_code _) (λ _.
    sticks_then _ _ (sticks_scaling _) (λ _. sticks_then _ _ sticks_authored (λ _. sticks_then _ _ (sticks_links _) (λ _. sticks_give _)))))))

pub returns-in_err-ft : goal.returns-in_err-ft
unfolding read_field
returns-in_err-ft c =
    out _ c.from_residual-in_err-ft.ensures.1 (reads_then _ _ c.in_ok-names.ensures (reads_stop _ _ c.in_err-ft.ensures (λ _. sticks_then _ _ (sticks_code _)
    (λ _. sticks_then _ _ (sticks_scaling _) (λ _. sticks_then _ _ sticks_authored (λ _. sticks_then _ _ (sticks_links _) (λ _. sticks_give _)))))))

pub returns-in_err-flags : goal.returns-in_err-flags
unfolding read_field
returns-in_err-flags c =
    out _ c.from_residual-in_err-flags.ensures.1 (reads_then _ _ c.in_ok-names.ensures (reads_then _ _ c.in_ok-ft.ensures (reads_stop _ _ c.in_err-flags.ensures
    (λ _. sticks_then _ _ (sticks_scaling _) (λ _. sticks_then _ _ sticks_authored (λ _. sticks_then _ _
    (sticks_links _) (λ _. sticks_give _)))))))

pub returns-in_err-scaling : goal.returns-in_err-scaling
unfolding read_field
returns-in_err-scaling c =
    out _ c.from_residual-in_err-scaling.ensures.1 (reads_then _ _ c.in_ok-names.ensures (reads_then _ _ c.in_ok-ft.ensures (reads_then _ _
    c.in_ok-flags.ensures (reads_stop _ _
    c.in_err-scaling.ensures (λ _. sticks_then _ _ sticks_authored (λ _. sticks_then _ _ (sticks_links _) (λ
    _. sticks_give _)))))))

pub returns-in_err-authored : goal.returns-in_err-authored
unfolding read_field
returns-in_err-authored c =
    out _ c.from_residual-in_err-authored.ensures.1 (reads_then _ _ c.in_ok-names.ensures (reads_then _ _ c.in_ok-ft.ensures (reads_then _ _
    c.in_ok-flags.ensures (reads_then _ _
    c.in_ok-scaling.ensures (reads_stop _ _ c.in_err-authored.ensures (λ _. sticks_then _ _ (sticks_links _)
    (λ _. sticks_give _)))))))

pub returns-in_err-links : goal.returns-in_err-links
unfolding read_field
returns-in_err-links c =
    out _ c.from_residual-in_err-links.ensures.1 (reads_then _ _ c.in_ok-names.ensures (reads_then _ _ c.in_ok-ft.ensures (reads_then _ _
    c.in_ok-flags.ensures (reads_then _ _
    c.in_ok-scaling.ensures (reads_then _ _ c.in_ok-authored.ensures (reads_stop _ _ c.in_err-links.ensures (λ
    _. sticks_give _)))))))

pub returns : goal.returns
unfolding read_field
returns c =
    rw c.field_flags.ensures (reads_then _ _ c.in_ok-names.ensures (reads_then _ _ c.in_ok-ft.ensures (reads_then _ _ c.in_ok-flags.ensures
    (reads_then _ _ c.in_ok-scaling.ensures (reads_then _ _ c.in_ok-authored.ensures (reads_then _ _ c.in_ok-links.ensures (done _ _)))))))
