use native.Mathlib.Omega.{arith}
use Prim.Native.Nat.{◌+◌, ◌-◌}
use Rattle.walk.proofs.Made.{later_none}
use Rattle.walk.proofs.Plain.{runs_none, runs_leap}
use Rattle.walk.proofs.runs.run_stretch.Goals as goal

pub returns : goal.returns
returns c =
    let o = c.args.stretch.from.0 in
    let leap = c.leap.ensures in
    record {
      more = λ x h. absurd (cc);
      later = leap.makes.later;
      first = omega (arith, leap.onward, c.requires.first);
      within = λ v x. omega (arith, leap.within, x.within);
      runs = λ v x. runs_leap o c.args.passes.now.numbers runs_none c.requires.first (later_none c.args.trace.now) (c.leap.result.0 - o) leap.makes
          (λ j l. x.plain (o + j) (omega arith) (omega (arith, l, leap.within))) leap.passing c.leap.result.0 (omega (arith, leap.onward));
    }
