use Rattle.pack.proofs.ReaderLaws.{out}
use Rattle.std.specs.Prelude.{ℕ}
use Rattle.pack.specs.Notation.{◌≤ᵇ◌}
use Rattle.pack.specs.Items.{read_code}
use Rattle.pack.proofs.ReaderItems.{reads_judged, judged_out}
use Rattle.pack.proofs.reader.Reader.code.Goals as goal

pub returns-in_err-n : goal.returns-in_err-n
unfolding read_code
returns-in_err-n c = out _ c.from_residual.ensures.1 (judged_out (λ (v : ℕ). v ≤ᵇ c.args.most) 3 c.in_err-n.ensures)

pub returns : goal.returns
unfolding read_code
returns c = reads_judged (λ (v : ℕ). v ≤ᵇ c.args.most) 3 c.in_ok-n.ensures c.refuse_unless.ensures
