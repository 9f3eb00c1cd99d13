use Rattle.pack.proofs.Few.{entries_few}
use Rattle.pack.specs.Items.{bytes_of}
use Rattle.pack.specs.Meaning.{pack_of}
use Rattle.pack.specs.Ready.{Ready, LookupAt, LookupsAre, place_of_lookup}
use Rattle.pack.specs.Value.{Lookup}
use Rattle.pack.specs.declared.load.Section.{Section}
use Rattle.rules.specs.Model.{find_lookup}
use Rattle.rules.specs.SearchLaws.{first_turn, first_hit}
use Prim.Native.Nat.{ℕ, ◌<◌}
use native.Mathlib.Numerals.{add-one}
use native.Mathlib.Omega.{arith}
use mathlib.Core.Bool.{true, false}
use mathlib.Core.List.{List}
use mathlib.Core.Path.{◌≡◌, ap, ◌∙◌, sym}
use lib.ListN.{length}
use Rattle.rules.proofs.of.find_lookup.Invariants.{named}
use Rattle.rules.proofs.of.find_lookup.Goals as goal

at_place : {s w : List ℕ} {lookups : Section} {l p : ℕ} → Ready s w → LookupsAre (pack_of s) lookups → l < lookups.count
    → p ≡ place_of_lookup (pack_of s) l → LookupAt s w l p
at_place r is h e = record { ready = r; lookup = omega (arith, is.count, h); place = e }

pub returns-then-same_text-clause-found : goal.returns-then-same_text-clause-found
unfolding find_lookup
returns-then-same_text-clause-found c =
    let s = c.args.s.now in
    let name = bytes_of s c.args.name in
    let h : named s name c.loop-item.item ≡ true =
    rw (← ap (λ (L : Lookup). L.name) c.lookup_of-view.ensures.means, ← c.same_text.ensures) c.if-same_text.true in
    sym
    (rw c.requires.lookups.count at (first_hit (named s name) c.args.lookups.count c.loop-item.item c.loop-item-test.true
    c.loop-item.invariant.none_yet h))

pub overflow_add-place : goal.overflow_add-place
overflow_add-place c =
    omega (arith, entries_few (at_place c.requires.ready c.requires.lookups c.loop-item-test.true c.loop-item.invariant.place))

pub overflow_add-place-in-loop-item : goal.overflow_add-place-in-loop-item
overflow_add-place-in-loop-item c =
    omega (
      arith,
      c.lookup_of-view.ensures.entries,
      entries_few (at_place c.requires.ready c.requires.lookups c.loop-item-test.true c.loop-item.invariant.place),
    )

pub loop-item-preserved : goal.loop-item-preserved
loop-item-preserved c =
    let s = c.args.s.now in
    let name = bytes_of s c.args.name in
    let h : named s name c.loop-item.item ≡ false =
    rw (← ap (λ (L : Lookup). L.name) c.lookup_of-view.ensures.means, ← c.same_text.ensures) c.if-same_text.false in
    record {
      place = rw (add-one c.loop-item.item) (omega (arith, c.lookup_of-view.ensures.entries, c.loop-item.invariant.place));
      none_yet = first_turn (named s name) c.loop-item.item ∙ (rw (c.loop-item.invariant.none_yet, h));
    }

pub returns-clause-found : goal.returns-clause-found
unfolding find_lookup
returns-clause-found c =
    let e : length (pack_of c.args.s.now).lookups ≡ c.loop-item.item = omega (arith, c.requires.lookups.count, c) in
    rw (e, c.loop-item.invariant.none_yet)
