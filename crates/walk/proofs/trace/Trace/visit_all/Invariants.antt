use Rattle.walk.specs.Traces.{MakesAll}
use mathlib.Core.Path.{◌≡◌}
use Prim.Native.Nat.{◌+◌}
use Rattle.walk.proofs.trace.Trace.visit_all.Given as goal

abbrev pub invariant-loop : goal.invariant-loop
invariant-loop l = record { makes : MakesAll l.initial.self l.fn.k.0 l.counter l.self; field : l.field ≡ l.fn.k.0 + l.counter }
