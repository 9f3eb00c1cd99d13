-- What the reader of a report may conclude: the findings as the call `check` leaves them in the findings buffer, eight numbers each.
use Rattle.std.specs.Prelude.{ℕ, ◌+◌, ◌*◌, ◌≤◌, Bool, true, false, ◌&&◌, not, List, ◌↔◌, ◌≡◌, get_or, ◌==◌}
use Rattle.std.specs.Prelude.{Result, Ok, Err}
use Rattle.pack.specs.Value.{Pack}
use Rattle.pack.specs.declared.load.Refusal.{Refusal}
use Rattle.rules.specs.Search.{any_below}
use Rattle.rules.specs.declared.check.Reported.{Reported}
use Rattle.scalings.specs.Scalings.{AllAlike, Unlike}

-- finding i has the rule and the cause: "Eight numbers: rule, severity .., cause, place .., tree, item, part, other."
abbrev pub finding_is : (rule cause : ℕ) → List ℕ → (i : ℕ) → Bool
finding_is rule cause o i = (get_or o (8 * i) 0 == rule) && (get_or o (8 * i + 2) 0 == cause)

-- one of the first n findings has them
abbrev pub reports : (rule cause n : ℕ) → List ℕ → Bool
reports rule cause n o = any_below (finding_is rule cause o) n

-- WHAT THE READER OF A REPORT MAY CONCLUDE, of a report of n findings on the pack, in the buffer o. It holds of check's report (`by_answer`)
-- and, with n the first of the answer's numbers, of the exported call's (`by_numbers`, proofs/ReportRead.antt).
pub record Concludes (P : Pack) (n : ℕ) (o : List ℕ) : Type 0 where
  pub silent : reports 42 3 n o ≡ false ↔ AllAlike P
  pub found : reports 42 3 n o ≡ true → Unlike P

-- ---- the call

-- the report's findings are in a buffer of m numbers
abbrev pub Room : Result Reported Refusal → (m : ℕ) → Type 0
Room (Err r) m = Unit {0}
Room (Ok x) m = 8 * x.findings ≤ m

-- check's answer is a report, and R42 has no cause 3 in it
abbrev pub silent : Result Reported Refusal → List ℕ → Bool
silent (Err r) o = false
silent (Ok x) o = not (reports 42 3 x.findings o)

-- What it means that `check_alike` says "alike" of a pack or does not, beside check's answer. Of a refusal it never does; of a report, every
-- two are alike or some two are not, as it says, and the two exclude each other (`unlike_not_all`, proofs/Silent42.antt).
abbrev pub Says : Pack → Result Reported Refusal → (alike : Bool) → Type 0
Says P (Err r) alike = alike ≡ false
Says P (Ok x) alike = (alike ≡ true → AllAlike P) × (alike ≡ false → Unlike P)
