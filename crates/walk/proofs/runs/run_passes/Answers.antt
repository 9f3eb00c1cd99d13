use Rattle.walk.specs.Runs.{EndsBehind}
use mathlib.Core.Path.{refl, sym, subst}
use native.Mathlib.Omega.{arith}
use Prim.Native.Nat.{ℕ, ◌+◌, ◌-◌}
use Rattle.walk.proofs.Made.{later_none, later_then}
use Rattle.walk.proofs.Plain.{runs_none, runs_leap, runs_turn, pass_onward}
use Rattle.walk.proofs.runs.run_passes.Goals as goal

pub loop-from-init : goal.loop-from-init
loop-from-init c =
    record {
      first = c.requires.sound.first;
      within = λ v x. omega (arith, c.requires.sound.order, x.within);
      begun = λ l. refl;
      later = later_none c.args.trace.now;
      runs = λ v x. runs_none;
    }

pub returns-then-not-pass_on : goal.returns-then-not-pass_on
returns-then-not-pass_on c =
    let o = c.loop-from.here.0 in
    let inside = c.is_in.ensures.inside c.loop-from-test.true in
    let leap = c.leap-here.ensures in
    record {
      more = λ x h. absurd (cc);
      later = later_then c.loop-from.invariant.later leap.makes.later;
      first = omega (arith, leap.onward, c.loop-from.invariant.first);
      within = λ v x. omega (arith, leap.within, x.within);
      runs = λ v x. rw (c.pass_on.ensures.kept c.if-not-pass_on.true)
          (runs_leap o c.loop-from.passes.numbers (c.loop-from.invariant.runs v x) c.loop-from.invariant.first c.loop-from.invariant.later
          (c.leap-here.result.0 - o) leap.makes (λ j l. x.plain (o + j) (omega (arith, inside.begun)) (omega (arith, l, leap.within)))
          leap.passing c.leap-here.result.0 (omega (arith, leap.onward)));
    }

pub loop-from-preserved : goal.loop-from-preserved
loop-from-preserved c =
    let o = c.loop-from.here.0 in
    let ending = c.args.ending in
    let inside = c.is_in.ensures.inside c.loop-from-test.true in
    let on = c.pass_on.ensures.on c.if-not-pass_on.false in
    let here = c.leap-here.result.0 in
    let leap = c.leap-here.ensures in
    let w' = c.pass_on.new.passes.numbers in
    let reached = later_then c.loop-from.invariant.later leap.makes.later in
    record {
      first = c.requires.sound.start ending c.requires.ends;
      within = λ v x. (x.ending ending c.requires.ends).within;
      begun = λ l. absurd (omega (arith, l, reached.at_least, c.visit.ensures.made));
      later = later_then reached c.visit.ensures.later;
      runs = λ v x. runs_turn here c.loop-from.passes.numbers
          (runs_leap o c.loop-from.passes.numbers (c.loop-from.invariant.runs v x) c.loop-from.invariant.first c.loop-from.invariant.later
          (here - o) leap.makes (λ j l. x.plain (o + j) (omega (arith, inside.begun)) (omega (arith, l, leap.within)))
          leap.passing here (omega (arith, leap.onward))) (omega (arith, leap.onward, c.loop-from.invariant.first)) reached
          (rw c.index_of.ensures at c.visit.ensures) on.passing ending.start.0 w'
          (λ L a r. pass_onward a here ending
          (subst (λ (i : ℕ). EndsBehind v i ending) (sym on.at) (x.ending ending c.requires.ends)) c.loop-from.passes.numbers w' on.turns r);
    }
