use Rattle.pack.proofs.ReaderLaws.{out}
use Rattle.pack.specs.Records.{read_pgn}
use Rattle.pack.proofs.ReaderLaws.{done, reads_then, reads_stop, sticks_then, sticks_give}
use Rattle.pack.proofs.ReaderItems.{sticks_bytes, sticks_code, sticks_number, sticks_optional, sticks_repeating, sticks_text}
use Rattle.pack.proofs.reader.Reader.pgn.Goals as goal

pub returns-in_err-pgn : goal.returns-in_err-pgn
unfolding read_pgn
returns-in_err-pgn c =
    out _ c.from_residual.ensures.1 (reads_stop _ _ c.in_err-pgn.ensures (λ _. sticks_then _ _ sticks_text (λ _. sticks_then _ _ (sticks_code _) (λ _.
    sticks_then _ _ (sticks_code _) (λ _. sticks_then _ _ sticks_number (λ _. sticks_then _ _ (sticks_optional _ sticks_bytes) (λ _. sticks_then _ _
    (sticks_optional _ sticks_repeating) (λ _. sticks_then _ _ (sticks_optional _ sticks_repeating) (λ _. sticks_then _ _ sticks_number (λ _.
    sticks_give _))))))))))

pub returns-in_err-id : goal.returns-in_err-id
unfolding read_pgn
returns-in_err-id c =
    out _ c.from_residual-in_err-id.ensures.1 (reads_then _ _ c.in_ok-pgn.ensures (reads_stop _ _ c.in_err-id.ensures (λ _. sticks_then _ _ (sticks_code _)
    (λ _. sticks_then _ _ (sticks_code _) (λ _. sticks_then _ _ sticks_number (λ _. sticks_then _ _ (sticks_optional _ sticks_bytes) (λ _.
    sticks_then _ _ (sticks_optional _ sticks_repeating) (λ _. sticks_then _ _ (sticks_optional _ sticks_repeating) (λ _. sticks_then _ _
    sticks_number (λ _. sticks_give _))))))))))

pub returns-in_err-kind : goal.returns-in_err-kind
unfolding read_pgn
returns-in_err-kind c =
    out _ c.from_residual-in_err-kind.ensures.1 (reads_then _ _ c.in_ok-pgn.ensures (reads_then _ _ c.in_ok-id.ensures (reads_stop _ _ c.in_err-kind.ensures
    (λ _. sticks_then _ _ (sticks_code _) (λ _. sticks_then _ _ sticks_number (λ _. sticks_then _ _ (sticks_optional _ sticks_bytes) (λ _.
    sticks_then _ _ (sticks_optional _ sticks_repeating) (λ _. sticks_then _ _ (sticks_optional _ sticks_repeating) (λ _. sticks_then _ _
    sticks_number (λ _. sticks_give _))))))))))

pub returns-in_err-flags : goal.returns-in_err-flags
unfolding read_pgn
returns-in_err-flags c =
    out _ c.from_residual-in_err-flags.ensures.1 (reads_then _ _ c.in_ok-pgn.ensures (reads_then _ _ c.in_ok-id.ensures (reads_then _ _
    c.in_ok-kind.ensures (reads_stop _ _ c.in_err-flags.ensures
    (λ _. sticks_then _ _ sticks_number (λ _. sticks_then _ _ (sticks_optional _ sticks_bytes) (λ _.
    sticks_then _ _ (sticks_optional _ sticks_repeating) (λ _. sticks_then _ _ (sticks_optional _ sticks_repeating) (λ _. sticks_then _ _
    sticks_number (λ _. sticks_give _))))))))))

pub returns-in_err-length : goal.returns-in_err-length
unfolding read_pgn
returns-in_err-length c =
    out _ c.from_residual-in_err-length.ensures.1 (reads_then _ _ c.in_ok-pgn.ensures (reads_then _ _ c.in_ok-id.ensures (reads_then _ _
    c.in_ok-kind.ensures (reads_then _ _ c.in_ok-flags.ensures
    (reads_stop _ _ c.in_err-length.ensures (λ _. sticks_then _ _ (sticks_optional _ sticks_bytes) (λ _.
    sticks_then _ _ (sticks_optional _ sticks_repeating) (λ _. sticks_then _ _ (sticks_optional _ sticks_repeating) (λ _. sticks_then _ _
    sticks_number (λ _. sticks_give _))))))))))

pub returns-in_err-minimum : goal.returns-in_err-minimum
unfolding read_pgn
returns-in_err-minimum c =
    out _ c.from_residual-in_err-minimum.ensures.1 (reads_then _ _ c.in_ok-pgn.ensures (reads_then _ _ c.in_ok-id.ensures (reads_then _ _
    c.in_ok-kind.ensures (reads_then _ _ c.in_ok-flags.ensures
    (reads_then _ _ c.in_ok-length.ensures (reads_stop _ _ c.in_err-minimum.ensures (λ _. sticks_then _ _
    (sticks_optional _ sticks_repeating) (λ _. sticks_then _ _ (sticks_optional _ sticks_repeating) (λ _. sticks_then _ _ sticks_number (λ _.
    sticks_give _))))))))))

pub returns-in_err-first : goal.returns-in_err-first
unfolding read_pgn
returns-in_err-first c =
    out _ c.from_residual-in_err-first.ensures.1 (reads_then _ _ c.in_ok-pgn.ensures (reads_then _ _ c.in_ok-id.ensures (reads_then _ _
    c.in_ok-kind.ensures (reads_then _ _ c.in_ok-flags.ensures
    (reads_then _ _ c.in_ok-length.ensures (reads_then _ _ c.in_ok-minimum.ensures (reads_stop _ _ c.in_err-first.ensures
    (λ _. sticks_then _ _ (sticks_optional _ sticks_repeating) (λ _. sticks_then _ _ sticks_number (λ _.
    sticks_give _))))))))))

pub returns-in_err-second : goal.returns-in_err-second
unfolding read_pgn
returns-in_err-second c =
    out _ c.from_residual-in_err-second.ensures.1 (reads_then _ _ c.in_ok-pgn.ensures (reads_then _ _ c.in_ok-id.ensures (reads_then _ _
    c.in_ok-kind.ensures (reads_then _ _ c.in_ok-flags.ensures
    (reads_then _ _ c.in_ok-length.ensures (reads_then _ _ c.in_ok-minimum.ensures (reads_then _ _ c.in_ok-first.ensures (reads_stop _ _
    c.in_err-second.ensures (λ _. sticks_then _ _ sticks_number (λ _. sticks_give _))))))))))

pub returns-in_err-fields : goal.returns-in_err-fields
unfolding read_pgn
returns-in_err-fields c =
    out _ c.from_residual-in_err-fields.ensures.1 (reads_then _ _ c.in_ok-pgn.ensures (reads_then _ _ c.in_ok-id.ensures (reads_then _ _
    c.in_ok-kind.ensures (reads_then _ _ c.in_ok-flags.ensures
    (reads_then _ _ c.in_ok-length.ensures (reads_then _ _ c.in_ok-minimum.ensures (reads_then _ _ c.in_ok-first.ensures (reads_then _ _
    c.in_ok-second.ensures (reads_stop _ _ c.in_err-fields.ensures (λ _. sticks_give _))))))))))

pub returns : goal.returns
unfolding read_pgn
returns c =
    rw (
      c.pgn_flags.ensures,
      c.of-kind.ensures,
    ) (reads_then _ _ c.in_ok-pgn.ensures (reads_then _ _ c.in_ok-id.ensures (reads_then _ _ c.in_ok-kind.ensures (reads_then _
    _ c.in_ok-flags.ensures (reads_then _ _ c.in_ok-length.ensures (reads_then _ _ c.in_ok-minimum.ensures (reads_then _ _ c.in_ok-first.ensures
    (reads_then _ _ c.in_ok-second.ensures (reads_then _ _ c.in_ok-fields.ensures (done _ _))))))))))
