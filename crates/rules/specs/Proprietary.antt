-- R07, `check_proprietary`: manufacturer-proprietary PGNs open with Manufacturer Code / Reserved / Industry Code, or declare MissingCompanyFields.
use Rattle.std.specs.Prelude.{ℕ, Bool, false, ◌&&◌, ◌||◌, not, List, [], length, ◌==◌, if◌then◌else◌}
use Rattle.std.specs.Prelude.{Option, None, Some}
use Rattle.pack.specs.Notation.{◌≤ᵇ◌, ◌≐◌}
use Rattle.pack.specs.Value.{Bytes, FieldType, Reference, Pgn, field_at}
use Rattle.rules.specs.declared.Finding.{Finding}
use Rattle.rules.specs.Findings.{pgn_error, report_if}
use Rattle.rules.specs.Model.{root_of, lookup_ref}
use Rattle.rules.specs.Texts.{MANUFACTURER_CODE, RESERVED, INDUSTRY_CODE}

-- pgn.h IS_MANUFACTURER_PGN()
unfoldable pub is_manufacturer_pgn : ℕ → Bool
is_manufacturer_pgn pgn = (0xff00 ≤ᵇ pgn) && (pgn ≤ᵇ 0xffff) || (pgn == 0x1ef00) || (0x1ff00 ≤ᵇ pgn) && (pgn ≤ᵇ 0x1ffff)

-- the Rust's `lookup`: a reference of kind pair
abbrev pub pair_is : Option Reference → Bytes → Bool
pair_is None name = false
pair_is (Some r) name = (r.kind == 0) && (r.name ≐ name)

unfoldable pub company_fields : List FieldType → Pgn → Bool
company_fields fts p =
    (3 ≤ᵇ length p.fields)
    && pair_is (lookup_ref (field_at p 0)) MANUFACTURER_CODE
    && ((field_at p 0).res_bits == 11)
    && (root_of fts (field_at p 1) ≐ RESERVED)
    && ((field_at p 1).res_bits == 2)
    && pair_is (lookup_ref (field_at p 2)) INDUSTRY_CODE
    && ((field_at p 2).res_bits == 3)

unfoldable pub check_proprietary : List FieldType → (t i : ℕ) → Pgn → List Finding
check_proprietary fts t i p =
    if not (is_manufacturer_pgn p.pgn) || p.fallback then []
    else (if p.missing_company_fields then []
    else report_if (not (company_fields fts p)) (pgn_error 7 1 t i 0 0))
