use Rattle.std.specs.Prelude.{◌==◌}
use Rattle.walk.specs.StopParts.{among}
use Rattle.rules.specs.SearchLaws.{any_turn, any_hit}
use borrow.Author.Tests.{eq-eqb, ne_eqb}
use lib.ListN.{get_or}
use mathlib.Core.Path.{◌≡◌, sym, ap, ◌∙◌}
use Prim.Native.Nat.{ℕ, ◌+◌, ◌*◌}
use native.Mathlib.Omega.{arith}
use Rattle.walk.proofs.known.Memory.is_bad.Goals as goal

pub returns-then-value_at-reading : goal.returns-then-value_at-reading
returns-then-value_at-reading c =
    let bad = c.args.self.now.bad in
    sym (any_hit (λ j. get_or bad (4 * c.args.k + j) 0 == c.args.reading) c.args.n c.loop-j.j c.loop-j-test.true
    (eq-eqb (get_or bad (4 * c.args.k + c.loop-j.j) 0) c.args.reading (sym c.value_at.ensures ∙ c.if-value_at-reading.true)))

pub loop-j-preserved : goal.loop-j-preserved
loop-j-preserved c =
    let bad = c.args.self.now.bad in
    record {
      none_yet = any_turn (λ j. get_or bad (4 * c.args.k + j) 0 == c.args.reading) c.loop-j.j
          ∙ (rw (
            c.loop-j.invariant.none_yet,
            ne_eqb (get_or bad (4 * c.args.k + c.loop-j.j) 0) c.args.reading (λ q. c.if-value_at-reading.false (c.value_at.ensures ∙ q)),
          ));
    }

pub returns : goal.returns
returns c =
    let q : c.args.n ≡ c.loop-j.j = omega arith in
    sym (ap (λ (i : ℕ). among c.args.self.now.bad (4 * c.args.k) i c.args.reading) q ∙ c.loop-j.invariant.none_yet)
