-- Findings put into a buffer one after the other, eight numbers each, where they fit.
use Rattle.std.specs.Prelude.{ℕ, ◌+◌, ◌*◌, ◌≤◌, ◌≡◌, min, List, [], ◌∷◌, length, if◌then◌else◌}
use Rattle.std.proofs.lemmas.List.Edits.{sets}
use mathlib.Core.List.{foldl}
use Rattle.pack.specs.Notation.{◌≤ᵇ◌, concat_below}
use Rattle.rules.specs.declared.Finding.{Finding}
use Rattle.rules.specs.declared.emit.Findings.{Findings}

-- "Eight numbers: rule, severity, cause, place, tree, item, part, other."
abbrev pub numbers : Finding → List ℕ
numbers f = f.rule ∷ f.severity ∷ f.cause ∷ f.place ∷ f.tree ∷ f.item ∷ f.part ∷ f.other ∷ []

-- the buffer, and how many findings there are
pub record Found : Type 0 where
  pub numbers : List ℕ
  pub count : ℕ

abbrev pub none_in : List ℕ → Found
none_in o = record { numbers = o; count = 0 }

abbrev pub found_in : Findings → Found
found_in f = record { numbers = f.numbers.now; count = f.count }

-- a finding behind n others, where its eight numbers fit
unfoldable pub stored : List ℕ → ℕ → Finding → List ℕ
stored o n f = if 8 * n + 8 ≤ᵇ length o then sets o (8 * n) (numbers f) else o

-- The count stops at the largest number of 64 bits. A pack has far fewer findings (Bound).
unfoldable pub put_one : Found → Finding → Found
put_one o f = record { numbers = stored o.numbers o.count f; count = min (o.count + 1) 18446744073709551615 }

abbrev pub put_all : Found → List Finding → Found
put_all = foldl put_one

-- what every function that reports promises: the findings fs are put behind those before, into the same buffer
pub record Emitted (o : Findings) (fs : List Finding) (o' : Findings) : Type 0 where
  pub found : found_in o' ≡ put_all (found_in o) fs
  pub same : o'.numbers.ghost_name ≡ o.numbers.ghost_name

-- the invariant of a loop that reports: k turns of all are done, and what they found is put
pub record Reporting (o : Findings) (turn : ℕ → List Finding) (all k : ℕ) (o' : Findings) : Type 0 where
  pub turns : k ≤ all
  pub emitted : Emitted o (concat_below turn k) o'
