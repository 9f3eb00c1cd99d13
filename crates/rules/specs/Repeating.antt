-- R05, `check_repeating`: repeating sets are self-consistent, and a nested set lies wholly inside the one that encloses it.
use Rattle.std.specs.Prelude.{ℕ, zero, suc, ◌+◌, ◌-◌, Bool, true, ◌&&◌, ◌||◌, List, [], ◌∷◌, ◌++◌, length, ◌==◌, if◌then◌else◌}
use Rattle.std.specs.Prelude.{Option, None, Some}
use Rattle.pack.specs.Notation.{◌<ᵇ◌, ◌≤ᵇ◌, concat_below}
use Rattle.pack.specs.Value.{Repeating, Pgn, set_place}
use Rattle.rules.specs.declared.Finding.{Finding}
use Rattle.rules.specs.Findings.{pgn_error, report_if}

-- no countField, or one before the order
abbrev pub none_or_below : Option ℕ → ℕ → Bool
none_or_below None o = true
none_or_below (Some cf) o = cf <ᵇ o

-- set n of PGN i of tree t
module _ (t i n : ℕ) where
  -- 1 start missing, 2 beyond the fields
  unfoldable pub set_bounds : (fields : ℕ) → Repeating → List Finding
  set_bounds fields r =
      if r.start == 0 then pgn_error 5 1 t i n 0 ∷ []
      else report_if (fields <ᵇ r.start - 1 + r.count) (pgn_error 5 2 t i n 0)

  -- 3 countField not before the set
  unfoldable pub set_count_field : (start : ℕ) → Option ℕ → List Finding
  set_count_field start None = []
  set_count_field start (Some cf) = report_if ((cf == 0) || (start ≤ᵇ cf)) (pgn_error 5 3 t i n 0)

  -- 4 a nested set's countField not inside the enclosing set, 5 not a set inside the one before it
  unfoldable pub set_nesting : Option Repeating → Repeating → List Finding
  set_nesting None r = pgn_error 5 5 t i n 0 ∷ []
  set_nesting (Some outer) r =
      if (outer.start <ᵇ r.start) && (r.start + r.count ≤ᵇ outer.start + outer.count)
      then report_if (none_or_below r.count_field outer.start) (pgn_error 5 4 t i n 0)
      else pgn_error 5 5 t i n 0 ∷ []

  -- a set of a PGN with so many fields, beside the set that may enclose it
  unfoldable pub check_set : (fields : ℕ) → Option Repeating → Option Repeating → List Finding
  check_set fields outer None = []
  check_set fields outer (Some r) =
      if r.count == 0 then []
      else set_bounds fields r ++ set_count_field r.start r.count_field ++ (if r.nested then set_nesting outer r else [])

-- What may enclose the set at place k: the one before it. Nothing encloses the first: "a nested set must be set 2".
abbrev pub set_before : Pgn → ℕ → Option Repeating
set_before p zero = None
set_before p (suc k) = set_place p k

-- each place beside the one before it; the part is the place, from 1
unfoldable pub check_repeating : (t i : ℕ) → Pgn → List Finding
check_repeating t i p = concat_below (λ k. check_set t i (k + 1) (length p.fields) (set_before p k) (set_place p k)) (length p.sets)
