use Rattle.pack.proofs.ReaderLaws.{out}
use native.Mathlib.Omega.{arith}
use mathlib.Core.Path.{refl, sym, ap}
use lib.ListN.{length}
use Rattle.pack.proofs.ReaderItems.{reads_text, text_cut, text_out}
use Rattle.pack.proofs.reader.Reader.text.Goals as goal

pub returns-in_err-n : goal.returns-in_err-n
returns-in_err-n c = out _ c.from_residual.ensures.1 (text_out c.in_err-n.ensures)

pub returns-then-len-self : goal.returns-then-len-self
returns-then-len-self c = let l = ap length c.in_ok-n.ensures.bytes in
    reads_text _ c.in_ok-n.ensures (omega (arith, l, c.if-len-self.true)) (sym c.in_ok-n.ensures.bytes) refl

pub returns : goal.returns
returns c =
    let l = ap length c.in_ok-n.ensures.bytes in
    rw c.refusal.ensures (text_cut c.in_ok-n.ensures (omega (arith, l, c.if-len-self.false)))
