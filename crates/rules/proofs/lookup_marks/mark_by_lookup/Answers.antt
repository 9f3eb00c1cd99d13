use Rattle.pack.specs.Loaded.{lookup_value}
use Rattle.pack.specs.Meaning.{pack_of}
use Rattle.rules.specs.LookupWiring.{referenced_by_lookup}
use Rattle.rules.specs.Search.{any_below}
use native.Mathlib.Omega.{arith}
use mathlib.Core.Bool.{false}
use mathlib.Core.Path.{◌≡◌, sym, ◌∙◌, ap}
use lib.ListN.{length}
use Rattle.rules.proofs.Marking.{marked_none, marked_as, nesting, not_nesting}
use Rattle.rules.proofs.lookup_marks.mark_by_lookup.Invariants.{nests}
use Rattle.rules.proofs.lookup_marks.mark_by_lookup.Goals as goal

pub returns-then-not-has_fieldtypes : goal.returns-then-not-has_fieldtypes
returns-then-not-has_fieldtypes c =
    let x = c.args.lookup.now in
    marked_as (λ n. false) (λ n. referenced_by_lookup n (lookup_value x))
    (λ n. sym (not_nesting n (lookup_value x) (sym c.has_fieldtypes.ensures ∙ c.if-not-has_fieldtypes.true)))
    (marked_none (pack_of x.pack.bytes.now) c.args.marks.now)

pub returns : goal.returns
returns c =
    let x = c.args.lookup.now in
    let q : length (lookup_value x).entries ≡ c.loop-e.e = omega (arith, x.is.entries, c.loop-e.auto.e-end, c.loop-e-test.false) in
    marked_as (λ n. any_below (nests x n) c.loop-e.e) (λ n. referenced_by_lookup n (lookup_value x))
    (λ n. sym (nesting n (lookup_value x) (sym c.has_fieldtypes.ensures ∙ c.if-not-has_fieldtypes.false) ∙ ap (any_below (nests x n)) q)) c.loop-e.invariant
