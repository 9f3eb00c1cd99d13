use Rattle.pack.specs.Meaning.{pack_of}
use Rattle.pack.proofs.Turns.{lookups_turn, lookups_given}
use Rattle.rules.specs.Search.{any_below}
use mathlib.Core.Path.{ap}
use lib.ListN.{length}
use Rattle.rules.proofs.PgnSearches.{one_more}
use Rattle.rules.proofs.Marking.{marked_as, marked_turn}
use Rattle.rules.proofs.lookup_marks.mark_by_lookups.Invariants.{has}
use Rattle.rules.proofs.lookup_marks.mark_by_lookups.Goals as goal

pub loop-lookup-preserved : goal.loop-lookup-preserved
loop-lookup-preserved c =
    let ys = c.loop-lookup.yielded in
    let u = lookups_turn c.in-Some.lookup c.next.new.self c.loop-lookup.invariant.given c.in-Some.ensures.steps in
    let e = one_more ys c.in-Some.lookup in
    record {
      given = (rw e u.1);
      marked = (rw e (marked_turn (has c.args.pack.now.bytes.now) (length ys) c.loop-lookup.invariant.marked
          (rw (u.0.bytes, u.0.item) at c.mark_by_lookup.ensures)));
    }

pub returns : goal.returns
returns c =
    let s = c.args.pack.now.bytes.now in
    let q = lookups_given c.loop-lookup.invariant.given c.in-None.ensures.steps.0 in
    marked_as (λ n. any_below (has s n) (length c.loop-lookup.yielded)) (λ n. any_below (has s n) (length (pack_of s).lookups))
    (λ n. ap (any_below (has s n)) q) c.loop-lookup.invariant.marked
