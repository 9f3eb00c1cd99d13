use Rattle.std.specs.Prelude.{◌≡◌}
use Rattle.pack.specs.Items.{groups}
use Rattle.pack.proofs.number.decode.Given as goal

abbrev pub invariant-loop-k : goal.invariant-loop-k
invariant-loop-k l = l.value ≡ groups l.s l.end l.k
