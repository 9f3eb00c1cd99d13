use Rattle.std.specs.Prelude.{Option, None}
use Rattle.pack.proofs.Sets.{set_is}
use Rattle.pack.specs.Loaded.{tree_of, pgn_value}
use Rattle.pack.specs.Meaning.{optional_repeating}
use Rattle.pack.specs.Value.{set_place}
use Rattle.pack.specs.declared.loaded.PgnRef.{PgnRef}
use Rattle.pack.specs.declared.pgn.RepeatingView.{RepeatingView}
use Rattle.rules.proofs.Emits.{reporting_turn}
use Rattle.rules.specs.Repeating.{check_set, set_before}
use Prim.Native.Nat.{ℕ, ◌+◌, ◌<◌}
use native.Mathlib.Numerals.{add-one}
use mathlib.Core.Path.{◌≡◌, ap, ◌∙◌}
use lib.ListN.{get_or}
use Rattle.rules.proofs.repeating.check_repeating.Invariants.{of_place}
use Rattle.rules.proofs.repeating.check_repeating.Goals as goal

module _ (g : PgnRef) (k : ℕ) (h : k < g.view.places) (set : Option RepeatingView) (e : set ≡ get_or g.view.sets k None) where
  means : optional_repeating set ≡ set_place (pgn_value g) k
  means = ap optional_repeating e ∙ set_is g.is k h

  told : (outer : Option RepeatingView) → optional_repeating outer ≡ set_before (pgn_value g) k
      → check_set (tree_of g) g.item (k + 1) g.view.fields (optional_repeating outer) (optional_repeating set) ≡ of_place g k
  told outer x = λ j. check_set (tree_of g) g.item (k + 1) (g.is.fields j) (x j) (means j)

  -- it may enclose the next
  encloses : optional_repeating set ≡ set_before (pgn_value g) (k + 1)
  encloses = rw (add-one k) means

pub loop-k-preserved : goal.loop-k-preserved
loop-k-preserved c =
    let g = c.args.pgn.now in
    let h = c.loop-k-test.true in
    record {
      outer = encloses g c.loop-k.k h _ c.set_at-set.ensures;
      reports = reporting_turn c.loop-k.invariant.reports h
          (rw (told g c.loop-k.k h _ c.set_at-set.ensures c.loop-k.outer c.loop-k.invariant.outer) at c.check_set.ensures);
    }
