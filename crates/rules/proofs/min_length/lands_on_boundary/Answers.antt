use Rattle.rules.specs.SearchLaws.{any_hit}
use Rattle.rules.specs.Search.{any_below, sum_below}
use Rattle.rules.specs.MinLength.{lands_on_boundary}
use Rattle.pack.specs.Loaded.{pgn_value}
use Rattle.pack.specs.Meaning.{field_meaning}
use Rattle.pack.specs.Value.{Field, field_at}
use Rattle.pack.specs.declared.field.FieldView.{FieldView}
use Rattle.pack.specs.declared.loaded.PgnRef.{PgnRef}
use Prim.Native.Nat.{ℕ, ◌+◌, ◌*◌, ◌<◌}
use native.Mathlib.Omega.{arith}
use mathlib.Core.Path.{◌≡◌, ap, ◌∙◌, sym}
use mathlib.Core.Bool.{true}
use borrow.Author.Tests.{eq-eqb}
use lib.ListN.{length}
use Rattle.rules.proofs.min_length.lands_on_boundary.Invariants.{width, ends}
use Rattle.rules.proofs.min_length.lands_on_boundary.Goals as goal

module _ (g : PgnRef) (least bits k : ℕ) (v : FieldView) (is : field_meaning g.pack.bytes.now v ≡ field_at (pgn_value g) k)
    (sum : bits ≡ sum_below (width g) k) where
  grown : bits + v.scaling.bits ≡ sum_below (width g) k + width g k
  grown = let e : v.scaling.bits ≡ width g k = ap (λ (F : Field). F.res_bits) is in rw (sum, e)

  hit : (n : ℕ) → k < n → bits + v.scaling.bits ≡ least * 8 → any_below (ends g least) n ≡ true
  hit n h e = any_hit (ends g least) n k h (eq-eqb (sum_below (width g) k + width g k) (least * 8) (sym grown ∙ e))

pub returns-then-bits-boundary : goal.returns-then-bits-boundary
unfolding lands_on_boundary
returns-then-bits-boundary c =
    let g = c.args.pgn.now in
    sym (hit g c.args.least c.loop-k.bits c.loop-k.k c.field-f.result c.field-f.ensures c.loop-k.invariant.sum
    (length (pgn_value g).fields) (omega (arith, c.loop-k-test.true, g.is.fields)) c.if-bits-boundary.true)
