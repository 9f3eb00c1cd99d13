use Rattle.pack.specs.Meaning.{pack_of}
use Rattle.pack.specs.Trees.{tree_number}
use Rattle.pack.proofs.Turns.{pgns_turn, pgns_given}
use Rattle.rules.specs.LookupWiring.{referenced_by_tree}
use Rattle.rules.specs.Search.{any_below}
use mathlib.Core.Path.{ap}
use lib.ListN.{length}
use Rattle.rules.proofs.PgnSearches.{one_more}
use Rattle.rules.proofs.Marking.{marked_as, marked_turn}
use Rattle.rules.proofs.lookup_marks.mark_by_tree.Invariants.{has}
use Rattle.rules.proofs.lookup_marks.mark_by_tree.Goals as goal

pub loop-pgn-preserved : goal.loop-pgn-preserved
loop-pgn-preserved c =
    let ys = c.loop-pgn.yielded in
    let u = pgns_turn c.in-Some.pgn c.next.new.self c.loop-pgn.invariant.given c.in-Some.ensures.steps in
    let e = one_more ys c.in-Some.pgn in
    record {
      given = (rw e u.1);
      marked = (rw e (marked_turn (has c.args.pack.now.bytes.now (tree_number c.args.protocol)) (length ys) c.loop-pgn.invariant.marked
          (rw (u.0.bytes, u.0.tree, u.0.item) at c.mark_by_pgn.ensures)));
    }

pub returns : goal.returns
unfolding referenced_by_tree
returns c =
    let s = c.args.pack.now.bytes.now in
    let t = tree_number c.args.protocol in
    let q = pgns_given c.loop-pgn.invariant.given c.in-None.ensures.steps.0 in
    marked_as (λ n. any_below (has s t n) (length c.loop-pgn.yielded)) (λ n. referenced_by_tree (pack_of s) n t) (λ n. ap (any_below (has s t n)) q)
    c.loop-pgn.invariant.marked
