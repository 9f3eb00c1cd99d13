-- One step of the walk, as the code makes it: with one reading it ends or visits a field.
use Rattle.std.specs.Prelude.{ℕ, pred, ◌+◌, ◌≤◌, ◌<◌, ◌≡◌, List, length, get_or, set}
use Rattle.std.specs.Prelude.{None, Some}
use Rattle.walk.specs.Layout.{Layout}
use Rattle.walk.specs.Walk.{Stops, Settled, past, halted, due, settled, onward, End, whole, used_up, stop}
use Rattle.walk.specs.ByPlace.{placed, by_place}
use Rattle.walk.specs.State.{place_of, memory_of}
use Rattle.walk.specs.declared.stops.Stop.TheVariants.{CounterNotCurrent}
use Rattle.walk.specs.declared.walk.End.{End as Ending}
use Rattle.walk.specs.declared.walk.End.TheVariants.{Whole, UsedUp, Stop}
use Rattle.walk.specs.declared.steps.Stepping.{Stepping}
use Rattle.walk.specs.declared.steps.Stepping.TheVariants as stepping

-- the end that the code answers
abbrev pub end_of : Ending → End
end_of Whole = whole
end_of UsedUp = used_up
end_of (Stop n) = stop n

pub data Stepped : Type 0 where
  ended : End → Stepped
  visited : ℕ → Settled (ℕ → ℕ) → Stepped

unfoldable pub one_step : Layout → Stops → Settled (ℕ → ℕ) → (reading : ℕ) → Stepped
one_step L stops past r = ended whole
one_step L stops halted r = ended (stop CounterNotCurrent)
one_step L stops (due p g) r = elim (stops (placed L p.order) (pred p.order) r) [
  | Some n ↦ ended (stop n)
  | None ↦ visited (pred p.order) (onward L (by_place L) p g r)
]

-- Steps one after the other, each writing its visit: from the buffer v with n visits made at c, to v' with n' at c'.
pub data Run (L : Layout) (stops : Stops) (readings v : List ℕ) (n : ℕ) (c : Settled (ℕ → ℕ)) : List ℕ → ℕ → Settled (ℕ → ℕ) → Type 0 where
  no_step : Run L stops readings v n c v n c
  then_step : {v' : List ℕ} {n' : ℕ} {c' : Settled (ℕ → ℕ)} → Run L stops readings v n c v' n' c' → n' < length readings → (k : ℕ) (d : Settled (ℕ → ℕ))
      → visited k d ≡ one_step L stops c' (get_or readings n' 0) → Run L stops readings v n c (set v' n' k) (n' + 1) d

-- with no reading left
abbrev pub used : Settled (ℕ → ℕ) → End
used past = whole
used halted = stop CounterNotCurrent
used (due p g) = used_up

-- what the values mean

-- behind the visited field the walk is not settled yet
abbrev pub step_of : Layout → Stepping → List ℕ → Stepped
step_of L (stepping.Ended e) w = ended (end_of e)
step_of L (stepping.Visited k next) w = visited k.0 (settled L (by_place L) (place_of next.0 w) (memory_of w))

-- the order behind the visited field, 1 where the walk has ended
abbrev pub next_of : Stepping → ℕ
next_of (stepping.Ended e) = 1
next_of (stepping.Visited k next) = next.0

-- a due field is one of the PGN's
abbrev pub Within : Layout → Settled (ℕ → ℕ) → Type 0
Within L past = Unit {0}
Within L halted = Unit {0}
Within L (due p g) = (1 ≤ p.order) × (p.order ≤ length L.fields)
