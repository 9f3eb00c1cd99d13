use lib.ListN.{take}
use Rattle.rules.proofs.DigitLaws.{from_highest}
use Rattle.rules.specs.TextOut.{Puts}
use Rattle.rules.proofs.text_out.TextOut.put_six_digits.Given as goal

abbrev pub invariant-loop-i : goal.invariant-loop-i
invariant-loop-i l = Puts l.initial.self (take l.i (from_highest l.places l.n)) l.self
