use Rattle.rules.proofs.Emits.{reporting_turn}
use Rattle.rules.specs.Texts.{DYNAMIC_FIELD_KEY}
use Rattle.rules.specs.Model.{root_of}
use Rattle.rules.specs.Search.{any_below}
use Rattle.rules.specs.DynamicLength.{length_source, have_length_source}
use Rattle.pack.specs.Items.{bytes_of}
use Rattle.pack.specs.Loaded.{pgn_value}
use Rattle.pack.specs.Meaning.{field_meaning, pack_of}
use Rattle.pack.specs.Notation.{◌≐◌}
use Rattle.pack.specs.Value.{FieldType, field_at}
use Rattle.pack.specs.declared.field.FieldView.{FieldView}
use Rattle.pack.specs.declared.loaded.PgnRef.{PgnRef}
use Prim.Native.Nat.{ℕ, suc}
use native.Mathlib.Numerals.{add-one}
use mathlib.Core.Path.{◌≡◌, ap}
use mathlib.Core.Bool.{◌||◌, Bool}
use mathlib.Core.List.{List}
use Rattle.rules.proofs.dynamic_length.check_dynamic_length.Invariants.{source}
use Rattle.rules.proofs.dynamic_length.check_dynamic_length.Goals as goal

-- a turn of the search for a length source
found : (g : PgnRef) (k : ℕ) (v : FieldView) (root : List ℕ) (old one : Bool) → field_meaning g.pack.bytes.now v ≡ field_at (pgn_value g) k
    → root ≡ root_of (pack_of g.pack.bytes.now).fieldtypes (field_at (pgn_value g) k) → old ≡ any_below (source g) k
    → one ≡ (v.flags.dynamic || (root ≐ DYNAMIC_FIELD_KEY)) → (old || one) ≡ any_below (source g) (suc k)
unfolding length_source
found g k v root old one is r o n = rw (n, o, r, ← is)

-- the same, as the rule says it
by_then : (g : PgnRef) (k : ℕ) (b : Bool) → b ≡ any_below (source g) (suc k) → b ≡ have_length_source (pack_of g.pack.bytes.now).fieldtypes (pgn_value g) k
unfolding have_length_source
by_then g k b h = h

pub dynamic_length_at-requires : goal.dynamic_length_at-requires
dynamic_length_at-requires c =
    let g = c.args.pgn.now in let x = c.field_ref-field.result in let same = c.field_ref-field.ensures in
    let root = rw (same.pgn, same.index) at (ap (λ (T : FieldType). T.root_name) c.field_type.ensures) in
    rw (same.pgn, same.index)
    (record {
      root = root;
      have = by_then g c.loop-k.k _
          (found g c.loop-k.k x.view (bytes_of g.pack.bytes.now c.field_type.result.root) c.loop-k.have _ same.means root
          c.loop-k.invariant.have c.length_source-have.ensures);
    })

pub loop-k-preserved : goal.loop-k-preserved
loop-k-preserved c =
    let g = c.args.pgn.now in let x = c.field_ref-field.result in let same = c.field_ref-field.ensures in
    let root = rw (same.pgn, same.index) at (ap (λ (T : FieldType). T.root_name) c.field_type.ensures) in
    record {
      reporting = reporting_turn c.loop-k.invariant.reporting c.loop-k-test.true (rw (same.pgn, same.index) at c.dynamic_length_at.ensures);
      have = (rw (add-one c.loop-k.k) (found g c.loop-k.k x.view (bytes_of g.pack.bytes.now c.field_type.result.root) c.loop-k.have _
          same.means root c.loop-k.invariant.have c.length_source-have.ensures));
    }
