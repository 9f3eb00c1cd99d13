use Rattle.rules.proofs.Emits.{emitted_append}
use Rattle.rules.specs.Texts.{DYNAMIC_FIELD_LENGTH, DYNAMIC_FIELD_VALUE}
use Rattle.rules.specs.Model.{root_of}
use Rattle.rules.specs.DynamicLength.{have_length_source, dynamic_length_at}
use Rattle.rules.specs.Findings.{report_if, pgn_error}
use Rattle.rules.specs.declared.Finding.{Finding}
use mathlib.Core.Bool.{not, ◌&&◌, Bool}
use Rattle.pack.specs.Value.{FieldType, Field, Pgn}
use Rattle.pack.specs.Loaded.{tree_of, pgn_value}
use Rattle.pack.specs.Notation.{◌≐◌}
use Rattle.pack.specs.Meaning.{field_meaning, pack_of}
use Rattle.pack.specs.Items.{bytes_of}
use Rattle.pack.specs.declared.field.FieldView.{FieldView}
use borrow.Author.Rules.{rules}
use Prim.Native.Nat.{ℕ}
use mathlib.Core.Path.{◌≡◌}
use mathlib.Core.List.{List, ◌++◌}
use Rattle.rules.proofs.dynamic_length.dynamic_length_at.Goals as goal

-- the rule at a field, said of the view
viewed : (s : List ℕ) (fts : List FieldType) (t i : ℕ) (P : Pgn) (k : ℕ) (F : Field) (v : FieldView) (root : List ℕ) (have : Bool)
    → field_meaning s v ≡ F → root ≡ root_of fts F → have ≡ have_length_source fts P k → (a b d l w : Bool) (f g h : Finding)
    → l ≡ (root ≐ DYNAMIC_FIELD_LENGTH) → w ≡ (root ≐ DYNAMIC_FIELD_VALUE) → a ≡ (v.flags.dynamic && not l) → f ≡ pgn_error 6 1 t i k 0
    → b ≡ (v.flags.overhead && not v.flags.dynamic) → g ≡ pgn_error 6 2 t i k 0 → d ≡ (w && not have) → h ≡ pgn_error 6 3 t i k 0
    → dynamic_length_at fts t i P k F ≡ report_if a f ++ report_if b g ++ report_if d h
unfolding dynamic_length_at
viewed s fts t i P k F v root have is r hv a b d l w f g h xl xw xa xf xb xg xd xh =
    rw (← r, ← hv, ← is, xa, xf, xb, xg, xd, xh, xl, xw)

pub returns : goal.returns
returns c =
    let x = c.args.field.now in let g = x.pgn.now in let s = g.pack.bytes.now in let f = x.view.flags in
    let misplaced : c.if-dynamic.misplaced ≡ (f.dynamic && not c.text_is-is_length.result) = search rules in
    let overhead : c.if-flags.overhead ≡ (f.overhead && not f.dynamic) = search rules in
    let sourceless : c.if-is_value.sourceless ≡ (c.text_is-is_value.result && not c.args.have) = search rules in
    rw (viewed s (pack_of s).fieldtypes (tree_of g) g.item (pgn_value g) x.index _ x.view (bytes_of s c.args.root) c.args.have
    x.means c.requires.root c.requires.have _ _ _ _ _ _ _ _ c.text_is-is_length.ensures c.text_is-is_value.ensures misplaced
    c.field_error.ensures overhead c.field_error-2.ensures sourceless c.field_error-3.ensures)
    (emitted_append (emitted_append c.put_if.ensures c.put_if-2.ensures) c.put_if-3.ensures)
