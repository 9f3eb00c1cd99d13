use Rattle.pack.proofs.ReaderLaws.{out}
use Rattle.std.specs.Prelude.{ℕ, ◌*◌}
use Rattle.pack.specs.Notation.{◌≤ᵇ◌}
use Rattle.pack.specs.Items.{read_bytes, largest32}
use Rattle.pack.proofs.ReaderItems.{checked, reads_judged, judged_out}
use Rattle.pack.proofs.reader.Reader.length.Goals as goal

pub returns-in_err-n : goal.returns-in_err-n
unfolding read_bytes
returns-in_err-n c = out _ c.from_residual.ensures.1 (judged_out (λ (v : ℕ). v * 8 ≤ᵇ largest32) 6 c.in_err-n.ensures)

pub returns : goal.returns
unfolding read_bytes
returns c =
    let e = rw (c.is_some.ensures, checked c.checked_mul.result (c.in_ok-n.n * 8) c.checked_mul.ensures) at c.refuse_unless.ensures in
    reads_judged (λ (v : ℕ). v * 8 ≤ᵇ largest32) 6 c.in_ok-n.ensures e
