-- What the calls `walk` and `held` answer, and what they leave in the visit buffer.
use Rattle.std.specs.Prelude.{ℕ, ◌≡◌, Bool, ◌&&◌, List, [], ◌∷◌, length, Result, Ok, Err, if◌then◌else◌}
use Rattle.pack.specs.Notation.{◌<ᵇ◌, ◌≤ᵇ◌}
use Rattle.pack.specs.Load.{Answer as Numbers, refuses, gives, after, in_numbers, loaded, after_load, load_tells}
use Rattle.pack.specs.Load.{over, buffer_left, work_after}
use Rattle.pack.specs.Meaning.{pack_of}
use Rattle.pack.specs.Value.{Pack, pgns_of, pgn_at}
use Rattle.pack.specs.declared.load.Refusal.{Refusal}
use Rattle.pack.specs.declared.load.Refusal.TheVariants.{Absent, Visits}
use Rattle.walk.specs.Walk.{End, whole, used_up, stop, Answer, walk}
use Rattle.walk.specs.Held.{held}
use Rattle.walk.specs.Stops.{number_of}
use Rattle.walk.specs.declared.walk.End.{End as Ending}
use Rattle.walk.specs.declared.walk.End.TheVariants.{Whole, UsedUp, Stop}
use Rattle.walk.specs.declared.walk.Ended.{Ended}

-- 23: "tree, PGN .. named is not in the pack"
abbrev pub in_pack : Pack → (tree pgn : ℕ) → Bool
in_pack P t i = (t <ᵇ 3) && (i <ᵇ length (pgns_of P t))

-- "the end": whole, used up, or a stop
abbrev pub ending : End → Ending
ending whole = Whole
ending used_up = UsedUp
ending (stop n) = Stop n

-- "The answer is the end and the number of visits, one for each reading taken."
abbrev pub ended_by : Answer → Ended
ended_by a = record { end = ending a.ends; visits = length a.visits }

-- the walk's answer r is A's, and of the visit buffer w it has made w'
pub record Told (A : Answer) (w w' : List ℕ) (r : Ended) : Type 0 where
  pub answer : r ≡ ended_by A
  pub out : w' ≡ over A.visits w

-- 25: "visit buffer shorter than the readings"; the detail is "the length needed". 23 comes before it. So many readings, and room for so many visits
abbrev pub walk_judged : Bool → (readings room : ℕ) → Answer → Result Ended Refusal
walk_judged there readings room a = if there then (if readings ≤ᵇ room then Ok (ended_by a) else Err (Visits readings)) else Err Absent

abbrev pub walk_of : List ℕ → (tree pgn : ℕ) → List ℕ → Answer
walk_of s t i readings = walk (pack_of s) (pgn_at (pack_of s) t i) readings

-- "Input refusals come before these; then 21, 23, 25": `walk` of PGN i of tree t of the pack s, with a work buffer of m numbers and a visit buffer of n
unfoldable pub walked : List ℕ → (m t i : ℕ) → List ℕ → (n : ℕ) → Result Ended Refusal
walked s m t i readings n = after_load (loaded s m) (walk_judged (in_pack (pack_of s) t i) (length readings) n (walk_of s t i readings))

-- "After 22 and higher numbers no other buffer has changed"; "each visit .. writes the index"; "Success writes only the entries it reports."
unfoldable pub visits_after : List ℕ → (m t i : ℕ) → List ℕ → List ℕ → List ℕ
visits_after s m t i readings o = buffer_left (walked s m t i readings (length o)) (walk_of s t i readings).visits o

-- ---- the same in 01's numbers

-- "the end": a stop is its own number, 1 to 9; "whole" is 0, "used up" 10
abbrev pub end_number : End → ℕ
end_number whole = 0
end_number used_up = 10
end_number (stop n) = number_of n

-- for each case of the answer its number and values: "the end and the number of visits"
abbrev pub ending_number : Ending → ℕ
ending_number Whole = 0
ending_number UsedUp = 10
ending_number (Stop n) = number_of n

abbrev pub walk_answer : Result Ended Refusal → Numbers
walk_answer = in_numbers (λ x. ending_number x.end ∷ x.visits ∷ [])

-- 23, then 25 with "the length needed"
abbrev pub visits_tell : Bool → (readings room : ℕ) → Answer → Numbers
visits_tell there readings room a =
    if there
    then (if readings ≤ᵇ room then gives (end_number a.ends ∷ length a.visits ∷ []) else refuses 25 readings)
    else refuses 23 0

unfoldable pub walk_tells : List ℕ → (m t i : ℕ) → List ℕ → (n : ℕ) → Numbers
walk_tells s m t i readings n = after (load_tells s m) (visits_tell (in_pack (pack_of s) t i) (length readings) n (walk_of s t i readings))

-- What `walk` promises: its answer r, and the work and visit buffers, w and o before, w' and o' after.
pub record Walks (s : List ℕ) (t i : ℕ) (readings w o w' o' : List ℕ) (r : Result Ended Refusal) : Type 0 where
  pub answer : r ≡ walked s (length w) t i readings (length o)
  pub told : walk_answer r ≡ walk_tells s (length w) t i readings (length o)
  pub work : w' ≡ work_after s w
  pub visits : o' ≡ visits_after s (length w) t i readings o

-- ---- held

abbrev pub held_judged : Bool → Bool → Result Bool Refusal
held_judged there h = if there then Ok h else Err Absent

unfoldable pub held_told : List ℕ → (m t i : ℕ) → Result Bool Refusal
held_told s m t i = after_load (loaded s m) (held_judged (in_pack (pack_of s) t i) (held (pack_of s) (pgn_at (pack_of s) t i)))

-- in 01's numbers: 1 where the PGN is held, 0 where it is not
abbrev pub yes_number : Bool → ℕ
yes_number h = if h then 1 else 0

abbrev pub held_answer : Result Bool Refusal → Numbers
held_answer = in_numbers (λ h. yes_number h ∷ [])

abbrev pub held_tell : Bool → Bool → Numbers
held_tell there h = if there then gives (yes_number h ∷ []) else refuses 23 0

unfoldable pub held_tells : List ℕ → (m t i : ℕ) → Numbers
held_tells s m t i = after (load_tells s m) (held_tell (in_pack (pack_of s) t i) (held (pack_of s) (pgn_at (pack_of s) t i)))

-- What `held` promises: its answer r, and the work buffer, w before and w' after.
pub record TellsHeld (s : List ℕ) (t i : ℕ) (w w' : List ℕ) (r : Result Bool Refusal) : Type 0 where
  pub answer : r ≡ held_told s (length w) t i
  pub told : held_answer r ≡ held_tells s (length w) t i
  pub work : w' ≡ work_after s w
