use Rattle.std.specs.Prelude.{is_some}
use Rattle.pack.specs.declared.field.FieldView.{FieldView}
use Rattle.pack.specs.Items.{bytes_of}
use Rattle.pack.specs.Value.{Pgn, Field, field_at}
use Rattle.rules.proofs.OptionMaps.{is_some_map}
use Rattle.rules.specs.SearchLaws.{any_hit}
use Rattle.rules.specs.Variants.{has_match}
use native.Mathlib.Omega.{arith}
use Prim.Native.Nat.{ℕ}
use mathlib.Core.Path.{◌≡◌, sym, ◌∙◌, ap}
use mathlib.Core.List.{List}
use lib.ListN.{length}
use Rattle.pack.specs.Loaded.{pgn_value}
use Rattle.pack.specs.Meaning.{field_meaning}
use Rattle.rules.proofs.match_keys.has_match.Invariants.{has}
use Rattle.rules.proofs.match_keys.has_match.Goals as goal

said : (s : List ℕ) (p : Pgn) (k : ℕ) (f : FieldView) → field_meaning s f ≡ field_at p k → has p k ≡ is_some f.authored.matched
said s p k f e = ap (λ (x : Field). is_some x.match) (sym e) ∙ is_some_map (bytes_of s) f.authored.matched

pub returns-then-is_some : goal.returns-then-is_some
unfolding has_match
returns-then-is_some c =
    let g = c.args.pgn.now in let p = pgn_value g in
    sym (any_hit (has p) (length p.fields) c.loop-k.k (omega (arith, c.loop-k-test.true, g.is.fields))
    (said g.pack.bytes.now p c.loop-k.k c.field-f.result c.field-f.ensures ∙ sym c.is_some.ensures ∙ c.if-is_some.true))
