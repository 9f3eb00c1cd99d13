use lib.ListN.{take}
use Rattle.rules.specs.TextOut.{Puts}
use Rattle.rules.proofs.text_out.TextOut.put_bytes.Given as goal

abbrev pub invariant-loop-b : goal.invariant-loop-b
invariant-loop-b l = Puts l.initial.self (take l.b-index l.bytes) l.self
