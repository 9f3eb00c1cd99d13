-- The calls behind the load: the PGN that is named, and what `walk` answers of one that is there.
use Rattle.std.specs.Prelude.{ℕ, ◌≡◌, Bool, true, List, length, Result, Ok, Err, if◌then◌else◌}
use Rattle.pack.specs.Loaded.{PgnSpot}
use Rattle.pack.specs.declared.load.Refusal.{Refusal}
use Rattle.pack.specs.declared.load.Refusal.TheVariants.{Absent}
use Rattle.walk.specs.Walk.{Answer}
use Rattle.pack.specs.Load.{buffer_left}
use Rattle.walk.specs.WalkCall.{walk_judged}
use Rattle.walk.specs.declared.walk.Ended.{Ended}

-- 23: which PGN it is, or it is absent
abbrev pub naming : (there : Bool) → PgnSpot → Result PgnSpot Refusal
naming there x = if there then Ok x else Err Absent

-- 25: the answer r to n readings of which the walk is A, and of the visit buffer w it has made w'
pub record Judges (A : Answer) (n : ℕ) (w w' : List ℕ) (r : Result Ended Refusal) : Type 0 where
  pub answer : r ≡ walk_judged true n (length w) A
  pub out : w' ≡ buffer_left (walk_judged true n (length w) A) A.visits w
