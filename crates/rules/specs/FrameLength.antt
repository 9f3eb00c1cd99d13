-- R04, `check_frame_length`: fixed single-frame PGNs are exactly 8 bytes (ISO Request 59904 excepted); a variable one's fixed part must fit.
use Rattle.std.specs.Prelude.{ℕ, ◌&&◌, not, List, [], ◌++◌, ◌==◌, if◌then◌else◌}
use Rattle.pack.specs.Notation.{◌<ᵇ◌}
use Rattle.pack.specs.Value.{Pgn}
use Rattle.rules.specs.declared.Finding.{Finding}
use Rattle.rules.specs.Findings.{pgn_error, report_if}
use Rattle.rules.specs.PgnRange.{SINGLE}

-- 1 not exactly 8 bytes, 2 does not fit
unfoldable pub check_frame_length : (t i : ℕ) → Pgn → List Finding
check_frame_length t i p =
    if not (p.type == SINGLE) then []
    else report_if (not p.variable && not (p.length == 8) && not (p.pgn == 59904)) (pgn_error 4 1 t i 0 0)
    ++ report_if (p.variable && (8 <ᵇ p.length)) (pgn_error 4 2 t i 0 0)
