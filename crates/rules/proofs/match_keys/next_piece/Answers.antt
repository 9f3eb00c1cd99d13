use Rattle.pack.specs.Loaded.{pgn_value}
use Rattle.pack.specs.declared.field.FieldView.{FieldView}
use Rattle.pack.specs.declared.text.Text.{Text}
use Rattle.pack.specs.Value.{Pgn, Field, field_at}
use Rattle.rules.specs.MatchKeys.{pieces_from}
use Rattle.rules.proofs.MatchKeys.{pieces_next, piece_begun}
use native.Mathlib.Omega.{arith}
use Prim.Native.Nat.{ℕ, ◌+◌, ◌-◌, ◌<◌}
use mathlib.Core.Path.{◌≡◌, sym, ◌∙◌, ap}
use mathlib.Core.List.{List}
use Rattle.std.specs.Prelude.{Option, None, Some}
use Rattle.pack.specs.Meaning.{field_meaning, optional_bytes}
use Rattle.rules.proofs.match_keys.next_piece.Goals as goal

matched : (s : List ℕ) (p : Pgn) (k : ℕ) (f : FieldView) (o : Option Text) → field_meaning s f ≡ field_at p k → f.authored.matched ≡ o
    → (field_at p k).match ≡ optional_bytes s o
matched s p k f o e h = rw (← h) (ap (λ (x : Field). x.match) (sym e))

skipped : (s : List ℕ) (p : Pgn) (k n : ℕ) (f : FieldView) → k < n → field_meaning s f ≡ field_at p k → f.authored.matched ≡ None
    → pieces_from p k (n - k) ≡ pieces_from p (k + 1) (n - (k + 1))
skipped s p k n f h e g = pieces_next p k n h ∙ (rw (matched s p k f None e g))

pub returns-in-Some : goal.returns-in-Some
returns-in-Some c =
    let g = c.args.pgn.now in let s = g.pack.bytes.now in
    record {
      came = c.loop-k.invariant
          ∙ piece_begun s (pgn_value g) c.loop-k.k g.view.fields c.in-Some.text c.begun.result c.loop-k-test.true g.is.fields
          (matched s (pgn_value g) c.loop-k.k c.field-f.result (Some c.in-Some.text) c.field-f.ensures c.in-Some.is) c.begun.ensures;
      next = record { field = omega (arith, c.begun.ensures.field, c.loop-k-test.true) };
    }

pub loop-k-preserved : goal.loop-k-preserved
loop-k-preserved c =
    let g = c.args.pgn.now in
    c.loop-k.invariant
    ∙ skipped g.pack.bytes.now (pgn_value g) c.loop-k.k g.view.fields c.field-f.result c.loop-k-test.true c.field-f.ensures c.in_default.is
