use Rattle.pack.proofs.ReaderLaws.{out}
use Rattle.pack.specs.Records.{read_links}
use Rattle.pack.proofs.ReaderLaws.{done, reads_then, reads_stop, sticks_then, sticks_give}
use Rattle.pack.proofs.ReaderItems.{sticks_number, sticks_optional, sticks_sum, sticks_text}
use Rattle.pack.proofs.reader.Reader.links.Goals as goal

pub returns-in_err-reference : goal.returns-in_err-reference
unfolding read_links
returns-in_err-reference c =
    out _ c.from_residual.ensures.1 (reads_stop _ _ c.in_err-reference.ensures (λ _. sticks_then _ _ (sticks_optional _ sticks_number) (λ _. sticks_then _ _
    (sticks_optional _ sticks_text) (λ _. sticks_then _ _ (sticks_optional _ sticks_text) (λ _. sticks_then _ _ (sticks_optional _ (sticks_sum _)) (λ
    _. sticks_give _))))))

pub returns-in_err-special : goal.returns-in_err-special
unfolding read_links
returns-in_err-special c =
    out _ c.from_residual-in_err-special.ensures.1 (reads_then _ _ c.in_ok-reference.ensures (reads_stop _ _ c.in_err-special.ensures (λ _. sticks_then
    _ _ (sticks_optional _ sticks_text) (λ _. sticks_then _ _ (sticks_optional _ sticks_text) (λ _. sticks_then _ _ (sticks_optional _ (sticks_sum
    _)) (λ _. sticks_give _))))))

pub returns-in_err-length : goal.returns-in_err-length
unfolding read_links
returns-in_err-length c =
    out _ c.from_residual-in_err-length.ensures.1 (reads_then _ _ c.in_ok-reference.ensures (reads_then _ _ c.in_ok-special.ensures (reads_stop _ _
    c.in_err-length.ensures
    (λ _. sticks_then _ _ (sticks_optional _ sticks_text) (λ _. sticks_then _ _ (sticks_optional _
    (sticks_sum _)) (λ _. sticks_give _))))))

pub returns-in_err-trailing : goal.returns-in_err-trailing
unfolding read_links
returns-in_err-trailing c =
    out _ c.from_residual-in_err-trailing.ensures.1 (reads_then _ _ c.in_ok-reference.ensures (reads_then _ _ c.in_ok-special.ensures (reads_then _ _
    c.in_ok-length.ensures (reads_stop _ _
    c.in_err-trailing.ensures (λ _. sticks_then _ _ (sticks_optional _ (sticks_sum _)) (λ _.
    sticks_give _))))))

pub returns-in_err-continuation : goal.returns-in_err-continuation
unfolding read_links
returns-in_err-continuation c =
    out _ c.from_residual-in_err-continuation.ensures.1 (reads_then _ _ c.in_ok-reference.ensures (reads_then _ _ c.in_ok-special.ensures (reads_then
    _ _ c.in_ok-length.ensures (reads_then _ _
    c.in_ok-trailing.ensures (reads_stop _ _ c.in_err-continuation.ensures (λ _. sticks_give _))))))

pub returns : goal.returns
unfolding read_links
returns c =
    reads_then _ _ c.in_ok-reference.ensures (reads_then _ _ c.in_ok-special.ensures (reads_then _ _ c.in_ok-length.ensures (reads_then _ _
    c.in_ok-trailing.ensures (reads_then _ _ c.in_ok-continuation.ensures (done _ _)))))
