use mathlib.Core.Path.{◌∙◌, sym}
use Rattle.rules.proofs.Loops.{lookup_missed, lookup_hit, no_lookup}
use Rattle.rules.proofs.lookup_uses.referenced_by_lookups.Goals as goal

pub returns-then-referenced_by_lookup : goal.returns-then-referenced_by_lookup
returns-then-referenced_by_lookup c =
    sym (lookup_hit c.loop-lookup.invariant c.in-Some.lookup c.next.new.self c.in-Some.ensures.steps
    (λ u. sym (rw (u.bytes, u.item) at c.referenced_by_lookup.ensures) ∙ c.if-referenced_by_lookup.true))

pub loop-lookup-preserved : goal.loop-lookup-preserved
loop-lookup-preserved c =
    lookup_missed c.loop-lookup.invariant c.in-Some.lookup c.next.new.self c.in-Some.ensures.steps
    (λ u. sym (rw (u.bytes, u.item) at c.referenced_by_lookup.ensures) ∙ c.if-referenced_by_lookup.false)

pub returns : goal.returns
returns c = sym (no_lookup c.loop-lookup.invariant c.in-None.ensures.steps.0)
