-- What it is to be alike: R42 tests just that; it is symmetric and transitive. It is not reflexive: a field with a NaN is not like itself.
use Rattle.std.specs.Prelude.{◌==◌}
use mathlib.Core.Bool.{Bool, true, ◌&&◌, false≢true}
use Rattle.std.specs.Prelude.{Option, None, Some}
use mathlib.Core.Path.{◌≡◌, refl, sym, ap, ◌∙◌}
use lib.Ieee.{of_bits, binary64}
use borrow.Author.Tests.{eqb-true, eq-eqb}
use Rattle.pack.specs.Value.{Bytes, Field}
use Rattle.rules.specs.Floats.{float_eq}
use Rattle.rules.specs.PlaceLaws.{same_eq, same_refl}
use Rattle.rules.specs.Spns.{same_unit, same_scaling}
use Rattle.rules.proofs.Extremes.{and_left, and_right}
use Rattle.scalings.specs.Scalings.{Alike}
use Rattle.scalings.proofs.FloatLaws.{eq_sym, eq_trans}

pub both : {a b : Bool} → a ≡ true → b ≡ true → (a && b) ≡ true
both e h = rw (e, h)

unit_same : (u v : Option Bytes) → same_unit u v ≡ true → u ≡ v
unit_same None None e = refl
unit_same None (Some v) e = absurd (false≢true e)
unit_same (Some u) None e = absurd (false≢true e)
unit_same (Some u) (Some v) e = ap Some (same_eq u v e)

same_unit_self : (u : Option Bytes) → same_unit u u ≡ true
same_unit_self None = refl
same_unit_self (Some u) = same_refl u

module _ (f g : Field) where
  pub alike_tested : same_scaling f g ≡ true → Alike f g
  unfolding same_scaling
  alike_tested e =
      let w = f.res_bits == g.res_bits in
      let r = float_eq f.res_resolution g.res_resolution in
      let o = float_eq f.res_offset g.res_offset in
      let u = same_unit f.res_unit g.res_unit in
      let wro = and_left (w && r && o) u e in
      let wr = and_left (w && r) o wro in
      record {
        width = eqb-true f.res_bits g.res_bits (and_left w r wr);
        resolution = and_right w r wr;
        offset = and_right (w && r) o wro;
        unit = unit_same f.res_unit g.res_unit (and_right (w && r && o) u e);
      }

  pub tested_alike : Alike f g → same_scaling f g ≡ true
  unfolding same_scaling
  tested_alike a =
      both (both (both (eq-eqb f.res_bits g.res_bits a.width) a.resolution) a.offset)
      (ap (same_unit f.res_unit) (sym a.unit) ∙ same_unit_self f.res_unit)

pub alike_sym : (f g : Field) → Alike f g → Alike g f
unfolding float_eq
alike_sym f g a =
    record {
      width = sym a.width;
      resolution = eq_sym (of_bits binary64 f.res_resolution) (of_bits binary64 g.res_resolution) a.resolution;
      offset = eq_sym (of_bits binary64 f.res_offset) (of_bits binary64 g.res_offset) a.offset;
      unit = sym a.unit;
    }

pub alike_trans : (f g h : Field) → Alike f g → Alike g h → Alike f h
unfolding float_eq
alike_trans f g h a b =
    record {
      width = a.width ∙ b.width;
      resolution = eq_trans _ (of_bits binary64 g.res_resolution) _ a.resolution b.resolution;
      offset = eq_trans _ (of_bits binary64 g.res_offset) _ a.offset b.offset;
      unit = a.unit ∙ b.unit;
    }
