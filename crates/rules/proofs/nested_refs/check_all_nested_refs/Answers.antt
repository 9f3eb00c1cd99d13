use Rattle.rules.proofs.Loops.{lookups_reported, all_lookups}
use Rattle.rules.proofs.nested_refs.check_all_nested_refs.Goals as goal

pub loop-lookup-preserved : goal.loop-lookup-preserved
loop-lookup-preserved c =
    lookups_reported c.in-Some.lookup c.next.new.self c.loop-lookup.invariant c.in-Some.ensures.steps
    (λ u. rw (u.bytes, u.item) at c.check_nested_refs.ensures)

pub returns : goal.returns
returns c = all_lookups c.loop-lookup.invariant c.in-None.ensures.steps.0
