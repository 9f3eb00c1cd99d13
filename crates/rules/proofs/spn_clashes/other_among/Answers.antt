use native.Mathlib.Omega.{arith}
use Prim.Native.Nat.{◌+◌}
use mathlib.Core.Path.{sym, ◌∙◌}
use lib.ListN.{length}
use Rattle.pack.specs.Items.{bytes_of}
use Rattle.rules.specs.SearchLaws.{any_turn, any_hit}
use Rattle.rules.proofs.PgnSearches.{searched_turn, searched_to, searched_all, searched_at}
use Rattle.rules.proofs.spn_clashes.other_among.Invariants.{has}
use Rattle.rules.proofs.spn_clashes.other_among.Goals as goal

pub returns-then-other_in : goal.returns-then-other_in
returns-then-other_in c =
    let g = c.args.pgn.now in
    let u = searched_at c.in-Some-earlier.earlier c.next.new.self c.loop-earlier.invariant c.in-Some-earlier.ensures.steps in
    let e = rw (u.bytes, u.tree, u.item) at c.other_in.ensures in
    rw c.in-Some.is (sym (any_hit (has g (bytes_of g.pack.bytes.now c.args.name) c.in-Some.spn) (g.item + 1) (length c.loop-earlier.yielded)
    (omega (arith, c.loop-earlier.invariant.holds.before)) (sym e ∙ c.if-other_in.true)))

pub returns-then-earlier-pgn : goal.returns-then-earlier-pgn
returns-then-earlier-pgn c =
    let g = c.args.pgn.now in
    let u = searched_at c.in-Some-earlier.earlier c.next.new.self c.loop-earlier.invariant c.in-Some-earlier.ensures.steps in
    let e = rw (u.bytes, u.tree, c.if-earlier-pgn.true) at c.other_in.ensures in
    let p = searched_to c.in-Some-earlier.earlier c.next.new.self c.loop-earlier.invariant c.in-Some-earlier.ensures.steps in
    rw c.in-Some.is (sym (any_turn (has g (bytes_of g.pack.bytes.now c.args.name) c.in-Some.spn) g.item
    ∙ (rw (rw c.if-earlier-pgn.true at p.none_yet, ← e) c.if-other_in.false)))

pub loop-earlier-preserved : goal.loop-earlier-preserved
loop-earlier-preserved c =
    let g = c.args.pgn.now in let name = bytes_of g.pack.bytes.now c.args.name in
    searched_turn c.in-Some-earlier.earlier c.next.new.self c.loop-earlier.invariant c.in-Some-earlier.ensures.steps
    (λ u p.
    let e = rw (u.bytes, u.tree, u.item) at c.other_in.ensures in
    record {
      before = omega (arith, u.item, p.before, c.if-earlier-pgn.false);
      none_yet = any_turn (has g name c.in-Some.spn) (length c.loop-earlier.yielded) ∙ (rw (p.none_yet, ← e) c.if-other_in.false);
    })

pub returns : goal.returns
returns c =
    absurd (let p = searched_all c.loop-earlier.invariant c.in-None.ensures.steps.0 in omega (arith, p.before, c.args.pgn.now.at.pgn))
