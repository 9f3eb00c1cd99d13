-- DEMAND 3, over two calls on the same pack bytes: check, without one error, then walk, of a held PGN of that pack over any readings.
use Rattle.std.specs.Prelude.{ℕ, ◌≤◌, ◌<◌, ◌≡◌, Bool, true, false, List, length, Result, Ok, Err, ◌==◌}
use Rattle.pack.specs.Load.{over}
use Rattle.pack.specs.Meaning.{pack_of}
use Rattle.pack.specs.Value.{Pgn, Pack, pgn_at}
use Rattle.pack.specs.declared.load.Refusal.{Refusal}
use Rattle.pack.specs.declared.load.Refusal.TheVariants.{Work, Visits}
use Rattle.rules.specs.declared.check.Reported.{Reported}
use Rattle.walk.specs.Walk.{whole, used_up, Answer}
use Rattle.walk.specs.WalkCall.{in_pack, walk_of}
use Rattle.walk.specs.declared.walk.End.TheVariants.{Whole, UsedUp}
use Rattle.walk.specs.declared.walk.Ended.{Ended}

-- check's answer: ""without one error" means it was not refused and no finding it reports has severity 1". `errors` counts those of
-- severity 1 (Findings.errors, in Checked.checked).
abbrev pub clean : Result Reported Refusal → Bool
clean (Err r) = false
clean (Ok x) = x.errors == 0

-- walk's answer r, with a work buffer of m numbers and a visit buffer that was w before and is w' after, where the definition over n
-- readings answers A:
pub data Kept (A : Answer) (n m : ℕ) (w w' : List ℕ) (r : Result Ended Refusal) : Type 0 where
  -- "A walk call that is refused (only 21 and 25 can occur) has made no walk;": a buffer was too short
  work_short : (k : ℕ) → m < k → r ≡ Err (Work k) → w' ≡ w → Kept A n m w w' r
  visits_short : length w < n → r ≡ Err (Visits n) → w' ≡ w → Kept A n m w w' r
  -- "every other one answers the end and the number of visits that the definition above gives, and the visit buffer begins with the field
  -- indexes of those visits, in order": no stop; no more visits than readings, and as many where they are used up
  walked_whole : r ≡ Ok (record { end = Whole; visits = length A.visits }) → A.ends ≡ whole → length A.visits ≤ n → w' ≡ over A.visits w → Kept A n m w w' r
  walked_used_up : r ≡ Ok (record { end = UsedUp; visits = length A.visits }) → A.ends ≡ used_up → length A.visits ≡ n → w' ≡ over A.visits w
      → Kept A n m w w' r

-- c is check's answer on the pack s, r walk's on PGN i of tree t over the readings. What "held" means is a parameter: it is claimed for
-- `held`, which the call answers, and for `held_widest`. That one claim covers the other readings of 01's sentence on countFields
-- (HeldReadings), since each implies `held_widest` of the PGNs of a pack (proofs/HeldWidest.antt): `demand_3_readings` (proofs/TwoCalls.antt).
abbrev pub Demand3 : (Pack → Pgn → Bool) → (s : List ℕ) (t i : ℕ) (readings : List ℕ) (m : ℕ) (w w' : List ℕ)
    → Result Reported Refusal → Result Ended Refusal → Type 0
Demand3 is_held s t i readings m w w' c r =
    clean c ≡ true → in_pack (pack_of s) t i ≡ true → is_held (pack_of s) (pgn_at (pack_of s) t i) ≡ true
    → Kept (walk_of s t i readings) (length readings) m w w' r
