use Rattle.std.specs.Prelude.{◌==◌}
use Rattle.rules.specs.Texts.{MANUFACTURER_CODE, RESERVED, INDUSTRY_CODE}
use Rattle.rules.specs.Proprietary.{pair_is, company_fields}
use Rattle.rules.specs.Model.{root_of}
use mathlib.Core.Bool.{◌&&◌, Bool, true, false}
use Rattle.pack.specs.Loaded.{pgn_value}
use Rattle.pack.specs.Value.{FieldType, Pgn, field_at}
use Rattle.pack.specs.Notation.{◌≐◌, ◌≤ᵇ◌}
use Rattle.pack.specs.Meaning.{pack_of}
use Prim.Native.Nat.{◌≤◌, ◌<◌}
use native.Mathlib.Omega.{arith}
use mathlib.Core.Path.{◌≡◌, refl, ◌∙◌, sym}
use mathlib.Core.List.{List}
use borrow.Author.Tests.{le-leb, lt-leb}
use lib.ListN.{length}
use Rattle.rules.proofs.proprietary.company_fields.Goals as goal

-- the seven tests, one for each field after the first
regroup : (a b c d e f g : Bool) → (a && b && c && d && e && f && g) ≡ (a && ((b && c) && ((d && e) && (f && g))))
regroup false b c d e f g = refl
regroup true false c d e f g = refl
regroup true true false d e f g = refl
regroup true true true false e f g = refl
regroup true true true true false f g = refl
regroup true true true true true f g = refl

at_first : (a x y : Bool) → x ≡ false → (a && (x && y)) ≡ false
at_first true x y e = rw e
at_first false x y e = refl

at_second : (a x y z : Bool) → y ≡ false → (a && (x && (y && z))) ≡ false
at_second true true y z e = rw e
at_second true false y z e = refl
at_second false x y z e = refl

at_third : (a x y z : Bool) → a ≡ true → x ≡ true → y ≡ true → (a && (x && (y && z))) ≡ z
at_third a x y z e d f = rw (e, d, f)

abbrev coded : Pgn → Bool
coded P = pair_is (field_at P 0).reference MANUFACTURER_CODE && ((field_at P 0).res_bits == 11)

abbrev spared : List FieldType → Pgn → Bool
spared fts P = (root_of fts (field_at P 1) ≐ RESERVED) && ((field_at P 1).res_bits == 2)

abbrev grouped : Pgn → Bool
grouped P = pair_is (field_at P 2).reference INDUSTRY_CODE && ((field_at P 2).res_bits == 3)

-- the rule's part
module _ (fts : List FieldType) (P : Pgn) where
  few : length P.fields < 3 → company_fields fts P ≡ false
  unfolding company_fields
  few h = rw (lt-leb 3 _ h)

  parted : company_fields fts P ≡ ((3 ≤ᵇ length P.fields) && (coded P && (spared fts P && grouped P)))
  unfolding company_fields
  parted =
      regroup (3 ≤ᵇ length P.fields) (pair_is (field_at P 0).reference MANUFACTURER_CODE) ((field_at P 0).res_bits == 11)
      (root_of fts (field_at P 1) ≐ RESERVED) ((field_at P 1).res_bits == 2) (pair_is (field_at P 2).reference INDUSTRY_CODE) ((field_at P 2).res_bits == 3)

  first : coded P ≡ false → company_fields fts P ≡ false
  first x = parted ∙ at_first (3 ≤ᵇ length P.fields) (coded P) (spared fts P && grouped P) x

  second : spared fts P ≡ false → company_fields fts P ≡ false
  second x = parted ∙ at_second (3 ≤ᵇ length P.fields) (coded P) (spared fts P) (grouped P) x

  third : 3 ≤ length P.fields → coded P ≡ true → spared fts P ≡ true → company_fields fts P ≡ grouped P
  third h x y = parted ∙ at_third (3 ≤ᵇ length P.fields) (coded P) (spared fts P) (grouped P) (le-leb 3 (length P.fields) h) x y

pub returns-then-pgn-lt3 : goal.returns-then-pgn-lt3
returns-then-pgn-lt3 c =
    let g = c.args.pgn.now in
    sym (few (pack_of g.pack.bytes.now).fieldtypes (pgn_value g) (omega (arith, g.is.fields, c.if-pgn-lt3.true)))

pub returns-then-not-is_pair : goal.returns-then-not-is_pair
returns-then-not-is_pair c =
    let g = c.args.pgn.now in let code = c.field_ref-code.ensures in
    sym (first (pack_of g.pack.bytes.now).fieldtypes (pgn_value g) (sym (rw (code.pgn, code.index) at c.is_pair.ensures) ∙ c.if-not-is_pair.true))

pub returns-then-not-is_reserved : goal.returns-then-not-is_reserved
returns-then-not-is_reserved c =
    let g = c.args.pgn.now in let reserved = c.field_ref-reserved.ensures in
    sym (second (pack_of g.pack.bytes.now).fieldtypes (pgn_value g)
    (sym (rw (reserved.pgn, reserved.index) at c.is_reserved.ensures) ∙ c.if-not-is_reserved.true))

pub returns : goal.returns
returns c =
    let g = c.args.pgn.now in
    let code = c.field_ref-code.ensures in let reserved = c.field_ref-reserved.ensures in let industry = c.field_ref-industry.ensures in
    (rw (industry.pgn, industry.index) at c.is_pair-2.ensures)
    ∙ sym (third (pack_of g.pack.bytes.now).fieldtypes (pgn_value g) (omega (arith, g.is.fields, c.if-pgn-lt3.false))
    (sym (rw (code.pgn, code.index) at c.is_pair.ensures) ∙ c.if-not-is_pair.false)
    (sym (rw (reserved.pgn, reserved.index) at c.is_reserved.ensures) ∙ c.if-not-is_reserved.false))
