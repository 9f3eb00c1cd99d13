use Rattle.pack.proofs.ReaderLaws.{out}
use Rattle.std.specs.Prelude.{ℕ}
use Rattle.pack.specs.Notation.{◌<ᵇ◌}
use Rattle.pack.specs.Items.{read_index}
use Rattle.pack.proofs.ReaderItems.{reads_judged, judged_out}
use Rattle.pack.proofs.reader.Reader.index.Goals as goal

pub returns-in_err-n : goal.returns-in_err-n
unfolding read_index
returns-in_err-n c = out _ c.from_residual.ensures.1 (judged_out (λ (v : ℕ). v <ᵇ c.args.count) 5 c.in_err-n.ensures)

pub returns : goal.returns
unfolding read_index
returns c = reads_judged (λ (v : ℕ). v <ᵇ c.args.count) 5 c.in_ok-n.ensures c.refuse_unless.ensures
