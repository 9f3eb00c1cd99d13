use Rattle.walk.proofs.Parts.{target_below}
use Rattle.rules.proofs.Fields.{order_fits}
use Rattle.walk.specs.Held.{bit_length_held}
use Rattle.walk.specs.Layout.{layout, sets_hold}
use Rattle.rules.specs.Model.{target}
use Rattle.pack.proofs.Few.{fields_few}
use Rattle.pack.specs.Items.{bytes_of}
use Rattle.pack.specs.Loaded.{pgn_value}
use Rattle.pack.specs.Value.{Bytes, Field, Pgn, field_at}
use native.Mathlib.Numerals.{add-one}
use native.Mathlib.Omega.{arith}
use Prim.Native.Nat.{ℕ, suc}
use mathlib.Core.Path.{◌≡◌, sym, ◌∙◌, ap}
use mathlib.Core.Bool.{true}
use Rattle.std.specs.Prelude.{Option, None, Some}
use Rattle.pack.specs.Meaning.{optional_bytes, field_meaning}
use Rattle.walk.proofs.held.bit_length_held.Goals as goal

module _ (p : Pgn) (k : ℕ) (F : Field) (is : F ≡ field_at p k) where
  named : (o : Option Bytes) → F.bit_length_field ≡ o → (field_at p k).bit_length_field ≡ o
  named o h = ap (λ (G : Field). G.bit_length_field) (sym is) ∙ h

  nothing : F.bit_length_field ≡ None → bit_length_held p k ≡ true
  unfolding bit_length_held
  nothing h = rw (named None h, bit_length_held)

  module _ (id : Bytes) (x : F.bit_length_field ≡ Some id) where
    unknown : target p id ≡ None → bit_length_held p k ≡ true
    unfolding bit_length_held
    unknown h = rw (named (Some id) x, h, bit_length_held)

    known : (t : ℕ) → target p id ≡ Some t → bit_length_held p k ≡ sets_hold (layout p) (suc t) (suc k)
    unfolding bit_length_held
    known t h = rw (named (Some id) x, h, bit_length_held)

pub returns-in_default : goal.returns-in_default
returns-in_default c =
    let s = c.args.found.now.pgn.pack.bytes.now in
    sym (nothing (pgn_value c.args.found.now.pgn) c.args.k (field_meaning s c.field-f.result) c.field-f.ensures
    (ap (optional_bytes s) c.in_default.is))

pub returns-in_default-target : goal.returns-in_default-target
returns-in_default-target c =
    let s = c.args.found.now.pgn.pack.bytes.now in
    sym (unknown (pgn_value c.args.found.now.pgn) c.args.k (field_meaning s c.field-f.result) c.field-f.ensures
    (bytes_of s c.in-Some.id) (ap (optional_bytes s) c.in-Some.is) (sym (rw c.in_default-target.is at c.target.ensures)))

pub order-own-requires : goal.order-own-requires
order-own-requires c = order_fits c.args.found.now.pgn c.args.k c.requires

pub order-requires : goal.order-requires
order-requires c =
    let s = c.args.found.now.pgn.pack.bytes.now in
    omega (
      arith,
      target_below (pgn_value c.args.found.now.pgn) (bytes_of s c.in-Some.id) c.in-Some-target.aim (sym c.in-Some-target.ensures),
      fields_few c.args.found.now.pgn.at,
    )

pub returns : goal.returns
returns c =
    let s = c.args.found.now.pgn.pack.bytes.now in let k = c.args.k in let t = c.in-Some-target.aim in
    let p = pgn_value c.args.found.now.pgn in
    let L = layout p in
    c.sets_hold.ensures L c.args.found.now.sets_are
    ∙ (λ j. sets_hold L ((c.order.ensures ∙ add-one t) j) ((c.order-own.ensures ∙ add-one k) j))
    ∙ sym (known p k (field_meaning s c.field-f.result) c.field-f.ensures (bytes_of s c.in-Some.id) (ap (optional_bytes s) c.in-Some.is) t
    (sym c.in-Some-target.ensures))
