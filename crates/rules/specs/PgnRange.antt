-- R02, `check_pgn_range`: the number in a valid range; PDU1 PGNs end in 0x00; the packet type agrees with the range.
use Rattle.std.specs.Prelude.{ℕ, ◌%◌, ◌&&◌, ◌||◌, not, List, [], ◌∷◌, ◌++◌, ◌==◌, if◌then◌else◌}
use Rattle.std.specs.Prelude.{Option, None, Some}
use Rattle.pack.specs.Notation.{◌<ᵇ◌, ◌≤ᵇ◌}
use Rattle.pack.specs.Value.{Pgn}
use Rattle.rules.specs.declared.Finding.{Finding}
use Rattle.rules.specs.Findings.{pgn_error, report_if}

-- "type (0 Single, 1 Fast, 2 ISO, 3 Mixed)"
abbrev pub SINGLE : ℕ
SINGLE = 0

abbrev pub FAST : ℕ
FAST = 1

abbrev pub ISO : ℕ
ISO = 2

abbrev pub MIXED : ℕ
MIXED = 3

-- (start, end, step, who, type) less `who`, of which no finding tells
pub record Range : Type 0 where
  pub start : ℕ
  pub end : ℕ
  pub step : ℕ
  pub type : ℕ

abbrev pub range : (start end step type : ℕ) → Range
range start end step type = record { start = start; end = end; step = step; type = type }

-- pgn.h pgnRange[]
abbrev pub PGN_RANGES : List Range
PGN_RANGES =
    range 0xe800 0xee00 256 SINGLE
    ∷ range 0xef00 0xef00 256 SINGLE
    ∷ range 0xf000 0xfeff 1 SINGLE
    ∷ range 0xff00 0xffff 1 SINGLE
    ∷ range 0x1ed00 0x1ee00 256 FAST
    ∷ range 0x1ef00 0x1ef00 256 FAST
    ∷ range 0x1f000 0x1feff 1 MIXED
    ∷ range 0x1ff00 0x1ffff 1 FAST
    ∷ []

-- pgn-j1939.h pgnRange[]
abbrev pub J1939_PGN_RANGES : List Range
J1939_PGN_RANGES =
    range 0x0000 0xe700 256 ISO
    ∷ range 0xe800 0xee00 256 SINGLE
    ∷ range 0xef00 0xef00 256 SINGLE
    ∷ range 0xf000 0xfeff 1 SINGLE
    ∷ range 0xff00 0xffff 1 SINGLE
    ∷ range 0x10000 0x1ec00 256 ISO
    ∷ range 0x1ed00 0x1ee00 256 ISO
    ∷ range 0x1ef00 0x1ef00 256 ISO
    ∷ range 0x1f000 0x1feff 1 ISO
    ∷ range 0x1ff00 0x1ffff 1 ISO
    ∷ []

-- Quick has none
abbrev pub ranges_of : (t : ℕ) → List Range
ranges_of t = if t == 1 then J1939_PGN_RANGES else PGN_RANGES

-- the first range that does not end below the number
unfoldable pub find_range : List Range → ℕ → Option Range
find_range [] n = None
find_range (r ∷ rs) n = if n ≤ᵇ r.end then Some r else find_range rs n

-- "The first of canboat's own pseudo-PGNs"
abbrev pub ACTISENSE_BEM : ℕ
ACTISENSE_BEM = 0x40000

-- 1 beyond 11 bits, 2 not Single
unfoldable pub quick_range : (t i : ℕ) → Pgn → List Finding
quick_range t i p = report_if (0x7ff <ᵇ p.pgn) (pgn_error 2 1 t i 0 0) ++ report_if (not (p.type == SINGLE)) (pgn_error 2 2 t i 0 0)

-- 3 beyond every range, 4 in no range, 5 PDU1 and not ending in 0x00, 6 another packet type than the range's
unfoldable pub found_range : (t i : ℕ) → Pgn → Option Range → List Finding
found_range t i p None = pgn_error 2 3 t i 0 0 ∷ []
found_range t i p (Some r) =
    if p.pgn <ᵇ r.start then pgn_error 2 4 t i 0 0 ∷ []
    else report_if ((r.step == 256) && not (p.pgn % 256 == 0)) (pgn_error 2 5 t i 0 0)
    ++ report_if (not ((r.type == p.type) || (r.type == MIXED) || (p.type == ISO))) (pgn_error 2 6 t i 0 0)

unfoldable pub check_pgn_range : (t i : ℕ) → Pgn → List Finding
check_pgn_range t i p =
    if ACTISENSE_BEM ≤ᵇ p.pgn then []
    else (if t == 2 then quick_range t i p
    else found_range t i p (find_range (ranges_of t) p.pgn))
