use Rattle.std.specs.Prelude.{◌==◌}
use Rattle.pack.specs.Loaded.{lookup_value}
use Rattle.pack.specs.Meaning.{pack_of}
use Rattle.pack.specs.Notation.{concat_below}
use Rattle.pack.specs.declared.loaded.LookupRef.{LookupRef}
use Rattle.rules.specs.LookupWiring.{check_nested_refs}
use Rattle.rules.specs.Model.{fieldtypes}
use native.Mathlib.Omega.{arith}
use mathlib.Core.Bool.{true, false}
use mathlib.Core.List.{[]}
use mathlib.Core.Path.{◌≡◌, sym, ◌∙◌}
use lib.ListN.{length}
use Rattle.rules.proofs.Emits.{emitted_none, reporting_turn}
use Rattle.rules.proofs.nested_refs.check_nested_refs.Invariants.{of_entry}
use Rattle.rules.proofs.nested_refs.check_nested_refs.Goals as goal

module _ (x : LookupRef) where
  others : ((lookup_value x).kind == 3) ≡ false → check_nested_refs (pack_of x.pack.bytes.now) x.item (lookup_value x) ≡ []
  unfolding check_nested_refs fieldtypes
  others e = rw e

  nesting : ((lookup_value x).kind == 3) ≡ true
      → check_nested_refs (pack_of x.pack.bytes.now) x.item (lookup_value x) ≡ concat_below (of_entry x) (length (lookup_value x).entries)
  unfolding check_nested_refs fieldtypes
  nesting e = rw e

pub returns-then-not-has_fieldtypes : goal.returns-then-not-has_fieldtypes
returns-then-not-has_fieldtypes c = rw (others c.args.lookup.now (sym c.has_fieldtypes.ensures ∙ c.if-not-has_fieldtypes.true)) (emitted_none c.args.out.now)

pub loop-e-preserved : goal.loop-e-preserved
loop-e-preserved c = reporting_turn c.loop-e.invariant c.loop-e-test.true c.fieldtype_entry_at.ensures

pub returns : goal.returns
returns c =
    let x = c.args.lookup.now in
    let q : length (lookup_value x).entries ≡ c.loop-e.e = omega (arith, x.is.entries, c.loop-e.invariant.turns, c.loop-e-test.false) in
    rw (nesting x (sym c.has_fieldtypes.ensures ∙ c.if-not-has_fieldtypes.false), q) c.loop-e.invariant.emitted
