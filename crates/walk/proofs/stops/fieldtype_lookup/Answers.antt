use Rattle.std.specs.Prelude.{◌==◌, Option, None, Some}
use Rattle.walk.specs.StopParts.{Named}
use Rattle.walk.specs.Stops.{entries_name_missing, lookup_names_missing, reference_names_missing}
use Rattle.rules.specs.Model.{find_lookup, fieldtypes}
use Rattle.pack.specs.Items.{bytes_of}
use Rattle.pack.specs.Meaning.{optional_reference, pack_of}
use Rattle.pack.specs.declared.field.ReferenceView.{ReferenceView}
use Rattle.pack.specs.declared.loaded.LookupRef.{LookupRef}
use Rattle.pack.specs.Value.{lookup_at}
use mathlib.Core.Bool.{true, false}
use borrow.Author.Rules.{rules}
use borrow.Author.Tests.{eqb-true}
use Prim.Native.Nat.{ℕ}
use mathlib.Core.Path.{◌≡◌, refl, sym, ◌∙◌}
use mathlib.Core.List.{List}
use Rattle.walk.proofs.stops.fieldtype_lookup.Goals as goal

module _ (s : List ℕ) where
  nobody : (r : Option ReferenceView) {l : Option LookupRef} → l ≡ None
      → ((reading : ℕ) → reference_names_missing (pack_of s) (optional_reference s r) reading ≡ false) → Named s (optional_reference s r) l
  nobody r n h = rw n (record { pack = tt; kind = tt; decide = h })

  no_reference : {r : Option ReferenceView} {l : Option LookupRef} → r ≡ None → l ≡ None → Named s (optional_reference s r) l
  unfolding reference_names_missing
  no_reference {r} e n = nobody r n (λ reading. rw e)

  module _ {r : Option ReferenceView} {v : ReferenceView} (e : r ≡ Some v) where
    unknown : {l : Option LookupRef} → None ≡ find_lookup (pack_of s).lookups (bytes_of s v.name) → l ≡ None → Named s (optional_reference s r) l
    unfolding reference_names_missing lookup_names_missing
    unknown f n = nobody r n (λ reading. rw (e, ← f))

    module _ {i : ℕ} (f : Some i ≡ find_lookup (pack_of s).lookups (bytes_of s v.name)) where
      others : ((lookup_at (pack_of s).lookups i).kind == 3) ≡ false → (reading : ℕ)
          → reference_names_missing (pack_of s) (optional_reference s r) reading ≡ false
      unfolding reference_names_missing lookup_names_missing entries_name_missing fieldtypes
      others q reading = rw (e, ← f, q)

      known : ((lookup_at (pack_of s).lookups i).kind == 3) ≡ true → (reading : ℕ)
          → reference_names_missing (pack_of s) (optional_reference s r) reading
          ≡ entries_name_missing (pack_of s) (lookup_at (pack_of s).lookups i).entries reading
      unfolding reference_names_missing lookup_names_missing fieldtypes
      known q reading = rw (e, ← f, q)

pub returns-in_err-r : goal.returns-in_err-r
returns-in_err-r c = no_reference c.args.pack.now.bytes.now c.in_err-r.was (search rules)

pub returns-in_err-lookup : goal.returns-in_err-lookup
returns-in_err-lookup c =
    let f = rw c.in_err-lookup.was at c.find_lookup.ensures.found in
    unknown c.args.pack.now.bytes.now c.in_ok-r.was f (search rules)

pub returns-then-not-has_fieldtypes : goal.returns-then-not-has_fieldtypes
returns-then-not-has_fieldtypes c =
    let kind = rw c.in_ok-lookup.ensures.same.bytes at (sym c.has_fieldtypes.ensures ∙ c.if-not-has_fieldtypes.true) in
    nobody c.args.pack.now.bytes.now c.args.r refl (others c.args.pack.now.bytes.now c.in_ok-r.was c.in_ok-lookup.ensures.found kind)

pub returns : goal.returns
returns c =
    let kind = rw c.in_ok-lookup.ensures.same.bytes at (sym c.has_fieldtypes.ensures ∙ c.if-not-has_fieldtypes.false) in
    record {
      pack = c.in_ok-lookup.ensures.same.bytes;
      kind = eqb-true _ _ kind;
      decide = known c.args.pack.now.bytes.now c.in_ok-r.was c.in_ok-lookup.ensures.found kind;
    }
