use Rattle.pack.specs.Items.{bytes_of}
use Rattle.pack.specs.Loaded.{tree_of, pgn_value}
use Rattle.pack.specs.Meaning.{pack_of}
use Rattle.pack.specs.Value.{Pgn, pgn_at}
use Rattle.rules.specs.SearchLaws.{latest_turn}
use Rattle.rules.proofs.PgnSearches.{searched_turn, searched_to, searched_all}
use native.Mathlib.Omega.{arith}
use mathlib.Core.Path.{◌≡◌, ap, ◌∙◌}
use lib.ListN.{length}
use Rattle.rules.proofs.unique_ids.latest_holder.Invariants.{has}
use Rattle.rules.proofs.unique_ids.latest_holder.Goals as goal

pub returns-then-earlier-pgn : goal.returns-then-earlier-pgn
returns-then-earlier-pgn c =
    rw c.if-earlier-pgn.true at (searched_to c.in-Some.earlier c.next.new.self c.loop-earlier.invariant c.in-Some.ensures.steps).found

pub loop-earlier-preserved : goal.loop-earlier-preserved
loop-earlier-preserved c =
    let g = c.args.pgn.now in let x = c.in-Some.earlier in
    searched_turn x c.next.new.self c.loop-earlier.invariant c.in-Some.ensures.steps
    (λ u p.
    let own : bytes_of g.pack.bytes.now x.view.id ≡ (pgn_at (pack_of g.pack.bytes.now) (tree_of g) (length c.loop-earlier.yielded)).id =
    rw (u.bytes, u.tree, u.item) at (ap (λ (P : Pgn). P.id) x.is.means) in
    let given : bytes_of g.pack.bytes.now g.view.id ≡ (pgn_value g).id = ap (λ (P : Pgn). P.id) g.is.means in
    let e : c.same_text-hit.result ≡ has g (length c.loop-earlier.yielded) = c.same_text-hit.ensures ∙ (rw (own, given)) in
    record {
      before = omega (arith, u.item, p.before, c.if-earlier-pgn.false);
      found = c.latest-found.ensures ∙ (rw (u.item, latest_turn (has g) (length c.loop-earlier.yielded), ← e, p.found));
    })

pub returns : goal.returns
returns c =
    absurd (let p = searched_all c.loop-earlier.invariant c.in-None.ensures.steps.0 in omega (arith, p.before, c.args.pgn.now.at.pgn))
