use Rattle.pack.specs.Loaded.{lookup_value}
use Rattle.pack.specs.Value.{Entry, Lookup}
use Rattle.rules.specs.LookupWiring.{beyond_width, unreachable}
use Rattle.rules.specs.SearchLaws.{any_hit}
use native.Mathlib.Omega.{arith}
use mathlib.Core.Bool.{true}
use mathlib.Core.Path.{◌≡◌, ap, sym, ◌∙◌}
use lib.ListN.{length}
use Rattle.rules.proofs.lookup_wiring.unreachable.Invariants.{beyond}
use Rattle.rules.proofs.lookup_wiring.unreachable.Goals as goal

pub returns-then-beyond_width : goal.returns-then-beyond_width
unfolding unreachable
returns-then-beyond_width c =
    let x = c.args.lookup.now in
    let kind = ap (λ (L : Lookup). L.kind) x.is.means in
    let value = ap (λ (E : Entry). E.value) c.entry-entry.ensures in
    let h : beyond x c.args.width c.loop-e.e ≡ true =
    sym (c.beyond_width.ensures ∙ (λ j. beyond_width (kind j) c.args.width (value j))) ∙ c.if-beyond_width.true in
    sym (any_hit (beyond x c.args.width) (length (lookup_value x).entries) c.loop-e.e (omega (arith, c.loop-e-test.true, x.is.entries)) h)
