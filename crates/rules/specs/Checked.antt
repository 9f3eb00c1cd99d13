-- What the call `check` answers, and what it leaves in the findings buffer.
use Rattle.std.specs.Prelude.{ℕ, ◌*◌, ◌≡◌, List, [], ◌∷◌, ◌++◌, length, Result, Ok, Err, if◌then◌else◌}
use Rattle.pack.specs.Notation.{◌≤ᵇ◌}
use Rattle.pack.specs.Load.{Answer, refuses, gives, after, in_numbers, loaded, after_load, load_tells, buffer_left, work_after}
use Rattle.pack.specs.Meaning.{pack_of}
use Rattle.pack.specs.declared.load.Refusal.{Refusal}
use Rattle.pack.specs.declared.load.Refusal.TheVariants.{Findings}
use Rattle.rules.specs.declared.Finding.{Finding}
use Rattle.rules.specs.declared.check.Reported.{Reported}
use Rattle.rules.specs.Check.{check}
use Rattle.rules.specs.Emit.{numbers}
use Rattle.rules.specs.Findings.{errors}

-- 22: "findings buffer below 8 numbers a finding"; the detail is "the length needed"
abbrev pub report_of : List Finding → ℕ → Result Reported Refusal
report_of fs n = if 8 * length fs ≤ᵇ n then Ok (record { findings = length fs; errors = errors fs }) else Err (Findings (8 * length fs))

-- "Input refusals come before these; then 21, .. 22.": `check` of the pack s with a work buffer of m numbers and a findings buffer of n
unfoldable pub checked : List ℕ → (m n : ℕ) → Result Reported Refusal
checked s m n = after_load (loaded s m) (report_of (check (pack_of s)) n)

-- "Eight numbers" a finding, in order
abbrev pub all_numbers : List Finding → List ℕ
all_numbers [] = []
all_numbers (f ∷ fs) = numbers f ++ all_numbers fs

-- "After 22 and higher numbers no other buffer has changed"; "Success writes only the entries it reports."
unfoldable pub findings_after : List ℕ → (m : ℕ) → List ℕ → List ℕ
findings_after s m o = buffer_left (checked s m (length o)) (all_numbers (check (pack_of s))) o

-- ---- the same in 01's numbers

-- for each case of the answer its number and values: the numbers of findings and of errors
abbrev pub check_answer : Result Reported Refusal → Answer
check_answer = in_numbers (λ x. x.findings ∷ x.errors ∷ [])

-- 22: "findings buffer below 8 numbers a finding"; the detail is "the length needed"
abbrev pub findings_tell : List Finding → ℕ → Answer
findings_tell fs n = if 8 * length fs ≤ᵇ n then gives (length fs ∷ errors fs ∷ []) else refuses 22 (8 * length fs)

unfoldable pub check_tells : List ℕ → (m n : ℕ) → Answer
check_tells s m n = after (load_tells s m) (findings_tell (check (pack_of s)) n)

-- What `check` promises: its answer r, and the work and findings buffers, w and o before, w' and o' after.
pub record Checks (s w o w' o' : List ℕ) (r : Result Reported Refusal) : Type 0 where
  pub answer : r ≡ checked s (length w) (length o)
  pub told : check_answer r ≡ check_tells s (length w) (length o)
  pub work : w' ≡ work_after s w
  pub findings : o' ≡ findings_after s (length w) o
