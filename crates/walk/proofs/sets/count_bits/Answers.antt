use Prim.Native.Nat.{ℕ, zero, suc, ◌-◌}
use native.Mathlib.Omega.{arith}
use mathlib.Core.Path.{◌≡◌, refl, sym, ap, ◌∙◌}
use mathlib.Core.List.{List}
use lib.ListN.{get_or}
use Rattle.std.specs.Prelude.{Option, None, Some}
use Rattle.std.specs.List.{slice_get}
use Rattle.std.specs.Option.{option_map, unwrap_or}
use Rattle.std.proofs.lemmas.Option.{unwrap_or-slice_get}
use Rattle.pack.specs.Loaded.{pgn_value}
use Rattle.pack.specs.Meaning.{opt_order, field_meaning}
use Rattle.pack.specs.Value.{Field, no_field}
use Rattle.pack.specs.declared.protocol.FieldOrder.{FieldOrder}
use Rattle.walk.specs.SetsOf.{count_bits}
use Rattle.walk.proofs.sets.count_bits.Goals as goal

-- x is what stands at the countField's index
counted_by : (fields : List Field) (counter : Option FieldOrder) (order : FieldOrder) → counter ≡ Some order → (order.0 ≡ 0 → ⊥) → (t : ℕ)
    → t ≡ order.0 - 1 → (x : Option Field) → x ≡ slice_get fields t → (unwrap_or x no_field).res_bits ≡ count_bits fields (opt_order counter)
counted_by fields counter order e z t te x at =
    ap (λ (y : Option Field). (unwrap_or y no_field).res_bits) at ∙ ap (λ (f : Field). f.res_bits) (unwrap_or-slice_get fields t no_field)
    ∙ go order.0 z te ∙ ap (λ (c : Option FieldOrder). count_bits fields (opt_order c)) (sym e)
  where
    go : (n : ℕ) → (n ≡ 0 → ⊥) → t ≡ n - 1 → (get_or fields t no_field).res_bits ≡ count_bits fields (Some n)
    go zero z te = absurd (z refl)
    go (suc u) z te = let d : t ≡ u = omega (arith, te) in ap (λ (i : ℕ). (get_or fields i no_field).res_bits) d

pub returns-in_default-get_field : goal.returns-in_default-get_field
returns-in_default-get_field c =
    counted_by (pgn_value c.args.pgn.now).fields c.args.counter c.in-Some.order c.in-Some.is c.if-order-eq0.false c.index_of.result.0 c.index_of.ensures
    None (ap (option_map (field_meaning c.args.pgn.now.pack.bytes.now)) (sym c.in_default-get_field.is) ∙ c.get_field.ensures)

pub returns : goal.returns
returns c =
    let s = c.args.pgn.now.pack.bytes.now in
    counted_by (pgn_value c.args.pgn.now).fields c.args.counter c.in-Some.order c.in-Some.is c.if-order-eq0.false c.index_of.result.0 c.index_of.ensures
    (Some (field_meaning s c.in-Some-get_field.field)) (ap (option_map (field_meaning s)) (sym c.in-Some-get_field.is) ∙ c.get_field.ensures)
