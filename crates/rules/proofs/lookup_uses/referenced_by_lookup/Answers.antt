use Rattle.pack.specs.Items.{bytes_of}
use Rattle.pack.specs.Loaded.{lookup_value}
use Rattle.pack.specs.Meaning.{optional_bytes, entry_meaning}
use Rattle.pack.specs.Value.{entry_at}
use Rattle.pack.specs.declared.entry.EntryView.{EntryView}
use Rattle.pack.specs.declared.loaded.LookupRef.{LookupRef}
use Rattle.rules.specs.Model.{is_text}
use Rattle.rules.specs.SearchLaws.{any_hit}
use Prim.Native.Nat.{ℕ}
use native.Mathlib.Omega.{arith}
use mathlib.Core.Bool.{Bool}
use mathlib.Core.List.{List}
use mathlib.Core.Path.{◌≡◌, sym, ◌∙◌}
use lib.ListN.{length}
use Rattle.rules.proofs.Marking.{not_nesting, nesting}
use Rattle.rules.proofs.lookup_uses.referenced_by_lookup.Invariants.{nests}
use Rattle.rules.proofs.lookup_uses.referenced_by_lookup.Goals as goal

said : (x : LookupRef) (name : List ℕ) (e : ℕ) (v : EntryView) (r : Bool) → entry_meaning x.pack.bytes.now v ≡ entry_at (lookup_value x).entries e
    → r ≡ is_text (optional_bytes x.pack.bytes.now v.nested) name → nests x name e ≡ r
said x name e v r y h = sym (h ∙ (λ j. is_text (y j).nested name))

pub returns-then-not-has_fieldtypes : goal.returns-then-not-has_fieldtypes
returns-then-not-has_fieldtypes c =
    let x = c.args.lookup.now in
    sym (not_nesting (bytes_of x.pack.bytes.now c.args.name) (lookup_value x) (sym c.has_fieldtypes.ensures ∙ c.if-not-has_fieldtypes.true))

pub returns-then-is_text : goal.returns-then-is_text
returns-then-is_text c =
    let x = c.args.lookup.now in
    let name = bytes_of x.pack.bytes.now c.args.name in
    let h = said x name c.loop-e.e c.entry-entry.result c.is_text.result c.entry-entry.ensures c.is_text.ensures in
    sym (nesting name (lookup_value x) (sym c.has_fieldtypes.ensures ∙ c.if-not-has_fieldtypes.false)
    ∙ any_hit (nests x name) (length (lookup_value x).entries) c.loop-e.e (omega (arith, c.loop-e-test.true, x.is.entries)) (h ∙ c.if-is_text.true))

pub returns : goal.returns
returns c =
    let x = c.args.lookup.now in
    let q : length (lookup_value x).entries ≡ c.loop-e.e = omega (arith, x.is.entries, c.loop-e.auto.e-end, c.loop-e-test.false) in
    sym (nesting (bytes_of x.pack.bytes.now c.args.name) (lookup_value x) (sym c.has_fieldtypes.ensures ∙ c.if-not-has_fieldtypes.false)
    ∙ (rw (q, c.loop-e.invariant)))
