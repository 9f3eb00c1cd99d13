use Rattle.walk.proofs.Readings.{free_passes}
use lib.ListN.{get_or}
use mathlib.Core.Path.{◌≡◌, ap, ◌∙◌}
use Prim.Native.Nat.{ℕ, ◌+◌, ◌-◌}
use native.Mathlib.Omega.{arith}
use Rattle.walk.specs.Traces.{MakesAll}
use Rattle.walk.specs.declared.trace.Trace.{Trace}
use Rattle.walk.proofs.runs.leap.Goals as goal

-- as many visits as there are orders up to the one that is answered
counted : {t t' : Trace} {k i n u : ℕ} (o : ℕ) → i ≡ k → u ≡ o + n → MakesAll t i n t' → MakesAll t k (u - o) t'
counted {n = n} {u = u} o e f m = let g : u - o ≡ n = omega (arith, f) in rw (g, ← e) m

pub returns-then-free : goal.returns-then-free
returns-then-free c =
    let t = c.args.trace.now in let memory = c.args.memory.now in
    let o = c.args.o.0 in
    record {
      onward = omega (arith, c.later_order.ensures);
      within = omega (arith, c.later_order.ensures, c.ahead-n.ensures.within);
      makes = counted o c.index_of-k.ensures c.later_order.ensures c.visit_all.ensures;
      passing = λ j l. let e : o - 1 + j ≡ o + j - 1 = omega (arith, c.requires.first) in
          free_passes memory (o - 1 + j) (get_or t.readings.now (t.made + j) 0)
          (ap (λ (i : ℕ). get_or memory.marks i 0) e
          ∙ c.requires.marked c.if-free.true (o + j) (omega (arith, c)) (omega (arith, l, c.later_order.ensures, c.ahead-n.ensures.within)));
    }
