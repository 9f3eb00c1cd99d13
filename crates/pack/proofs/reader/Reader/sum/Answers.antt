use Rattle.pack.proofs.ReaderLaws.{out}
use Rattle.std.specs.Prelude.{ℕ, ◌+◌}
use Rattle.pack.specs.Notation.{◌≤ᵇ◌}
use Rattle.pack.specs.Items.{read_sum, largest32}
use Rattle.pack.proofs.ReaderItems.{checked, reads_judged, judged_out}
use Rattle.pack.proofs.reader.Reader.sum.Goals as goal

pub returns-in_err-n : goal.returns-in_err-n
unfolding read_sum
returns-in_err-n c = out _ c.from_residual.ensures.1 (judged_out (λ (v : ℕ). c.args.other + v ≤ᵇ largest32) 6 c.in_err-n.ensures)

pub returns : goal.returns
unfolding read_sum
returns c =
    let e = rw (c.is_some.ensures, checked c.checked_add.result (c.args.other + c.in_ok-n.n) c.checked_add.ensures) at c.refuse_unless.ensures in
    reads_judged (λ (v : ℕ). c.args.other + v ≤ᵇ largest32) 6 c.in_ok-n.ensures e
