use Rattle.pack.specs.Items.{bytes_of}
use Rattle.pack.specs.Meaning.{pack_of}
use Rattle.pack.specs.Notation.{◌≐◌}
use Rattle.pack.specs.Value.{Bytes, Lookup, lookup_at}
use Rattle.pack.specs.declared.loaded.LookupRef.{LookupRef}
use Rattle.pack.proofs.Turns.{lookups_turn, lookups_given}
use Prim.Native.Nat.{ℕ}
use mathlib.Core.Bool.{Bool}
use mathlib.Core.List.{List}
use mathlib.Core.Path.{◌≡◌, ap, sym}
use Rattle.rules.proofs.PgnSearches.{one_more}
use Rattle.rules.proofs.Marking.{marked_next, marked_all}
use Rattle.rules.proofs.lookup_marks.mark.Goals as goal

said : {s : List ℕ} (name : Bytes) {l : ℕ} (x : LookupRef) {b : Bool} → x.pack.bytes.now ≡ s → x.item ≡ l → b ≡ (name ≐ bytes_of s x.view.name)
    → b ≡ (name ≐ (lookup_at (pack_of s).lookups l).name)
said name x e i h = let q = ap (λ (L : Lookup). L.name) x.is.means in cc

pub loop-lookup-preserved : goal.loop-lookup-preserved
loop-lookup-preserved c =
    let x = c.in-Some.lookup in
    let u = lookups_turn x c.next.new.self c.loop-lookup.invariant.given c.in-Some.ensures.steps in
    let name = bytes_of c.args.pack.now.bytes.now c.args.name in
    let e = one_more c.loop-lookup.yielded x in
    record {
      given = (rw e u.1);
      marked = (rw e (marked_next c.same_text.result c.loop-lookup.invariant.marked (said name x u.0.bytes u.0.item c.same_text.ensures)
          (rw u.0.item at c.mark_at.ensures)));
    }

pub returns : goal.returns
returns c = marked_all (sym (lookups_given c.loop-lookup.invariant.given c.in-None.ensures.steps.0)) c.loop-lookup.invariant.marked
