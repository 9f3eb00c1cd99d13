use Rattle.std.specs.Prelude.{is_some}
use Rattle.rules.specs.Continues.{integer, not_raw, continued_place, continued_at}
use Rattle.rules.specs.Model.{fieldtype_of, root_of, value_bits}
use Rattle.rules.proofs.OptionMaps.{is_some_map}
use Rattle.rules.specs.Texts.{NUMBER}
use Rattle.rules.specs.Floats.{float_eq, ZERO}
use Rattle.rules.proofs.Emits.{emitted_append}
use Rattle.rules.specs.Findings.{report_if, pgn_error}
use Rattle.rules.specs.declared.Finding.{Finding}
use Rattle.pack.specs.declared.field.FieldView.{FieldView}
use Rattle.pack.specs.Meaning.{field_meaning, pack_of}
use Rattle.pack.specs.Items.{bytes_of}
use Rattle.pack.specs.Loaded.{pgn_value}
use Rattle.pack.specs.Value.{Bytes, FieldType, Pgn, field_at}
use Rattle.pack.specs.Notation.{◌<ᵇ◌, ◌≐◌}
use mathlib.Core.Bool.{not, ◌||◌, Bool}
use Prim.Native.Nat.{ℕ}
use mathlib.Core.Path.{◌≡◌}
use mathlib.Core.List.{List, ◌++◌}
use Rattle.rules.proofs.continues.continued_at.Goals as goal

-- said of what the code finds
module _ (s : List ℕ) (fts : List FieldType) (p : Pgn) (low : FieldView) (id : Bytes) {t i k j : ℕ} {m n w d c e : Bool} {F G H I J : Finding}
    (is : field_meaning s low ≡ field_at p j) (me : m ≡ is_some low.links.continuation) (ne : n ≡ is_some low.authored.continues)
    (we : w ≡ (not (integer fts (field_at p j)) || not (root_of fts (field_at p k) ≐ NUMBER))) (de : d ≡ not_raw (field_at p k))
    (ce : c ≡ ((fieldtype_of fts (field_at p j)).signed || not (float_eq (field_at p j).res_offset ZERO))) (ee : e ≡ (64 <ᵇ value_bits (field_at p j)))
    (Fe : F ≡ pgn_error 43 5 t i k j) (Ge : G ≡ pgn_error 43 6 t i k j) (He : H ≡ pgn_error 43 7 t i k j) (Ie : I ≡ pgn_error 43 8 t i k j)
    (Je : J ≡ pgn_error 43 9 t i k j) where
  said : continued_at fts t i p k (field_at p k) id j (field_at p j)
      ≡ continued_place t i p k id j m ++ report_if n F ++ report_if w G ++ report_if d H ++ report_if c I ++ report_if e J
  unfolding continued_at
  said = rw (← we, ← de, ← ce, ← ee, ← is, is_some_map (bytes_of s) low.authored.continues, ← me, ← ne, ← Fe, ← Ge, ← He, ← Ie, ← Je)

pub returns : goal.returns
returns c =
    let x = c.args.link.now in let g = x.field.now.pgn.now in let s = g.pack.bytes.now in
    let low = c.field_ref-low.result in let same = c.field_ref-low.ensures in
    let all = said s (pack_of s).fieldtypes (pgn_value g) low.view (bytes_of s x.id) same.means c.is_some.ensures c.is_some-2.ensures
    (rw (same.pgn, same.index) at c.not_integers.ensures) c.not_raw.ensures (rw (same.pgn, same.index) at c.not_plain.ensures)
    (rw (same.pgn, same.index) at c.too_wide.ensures) c.link_error.ensures c.link_error-2.ensures c.link_error-3.ensures c.link_error-4.ensures
    c.link_error-5.ensures in
    rw all (emitted_append (emitted_append (emitted_append (emitted_append (emitted_append c.placed_at.ensures c.put_if.ensures) c.put_if-2.ensures)
    c.put_if-3.ensures) c.put_if-4.ensures) c.put_if-5.ensures)
