use Rattle.pack.proofs.ReaderLaws.{out}
use Rattle.pack.specs.Records.{read_repeating}
use Rattle.pack.proofs.ReaderLaws.{done, reads_then, reads_stop, sticks_then, sticks_give}
use Rattle.pack.proofs.ReaderItems.{sticks_mark, sticks_number, sticks_optional, sticks_sum}
use Rattle.pack.proofs.reader.Reader.repeating.Goals as goal

pub returns-in_err-count : goal.returns-in_err-count
unfolding read_repeating
returns-in_err-count c =
    out _ c.from_residual.ensures.1 (reads_stop _ _ c.in_err-count.ensures (λ _. sticks_then _ _ (sticks_sum _) (λ _. sticks_then _ _ (sticks_optional _
    sticks_number) (λ _. sticks_then _ _ sticks_mark (λ _. sticks_give _)))))

pub returns-in_err-start : goal.returns-in_err-start
unfolding read_repeating
returns-in_err-start c =
    out _ c.from_residual-in_err-start.ensures.1 (reads_then _ _ c.in_ok-count.ensures (reads_stop _ _ c.in_err-start.ensures (λ _. sticks_then _ _
    (sticks_optional _ sticks_number) (λ _. sticks_then _ _ sticks_mark (λ _. sticks_give _)))))

pub returns-in_err-counter : goal.returns-in_err-counter
unfolding read_repeating
returns-in_err-counter c =
    out _ c.from_residual-in_err-counter.ensures.1 (reads_then _ _ c.in_ok-count.ensures (reads_then _ _ c.in_ok-start.ensures (reads_stop _ _
    c.in_err-counter.ensures
    (λ _. sticks_then _ _ sticks_mark (λ _. sticks_give _)))))

pub returns-in_err-nested : goal.returns-in_err-nested
unfolding read_repeating
returns-in_err-nested c =
    out _ c.from_residual-in_err-nested.ensures.1 (reads_then _ _ c.in_ok-count.ensures (reads_then _ _ c.in_ok-start.ensures (reads_then _ _
    c.in_ok-counter.ensures (reads_stop _ _
    c.in_err-nested.ensures (λ _. sticks_give _)))))

pub returns : goal.returns
unfolding read_repeating
returns c =
    rw c.order_of.ensures (reads_then _ _ c.in_ok-count.ensures (reads_then _ _ c.in_ok-start.ensures (reads_then _ _ c.in_ok-counter.ensures
    (reads_then _ _ c.in_ok-nested.ensures (done _ _)))))
