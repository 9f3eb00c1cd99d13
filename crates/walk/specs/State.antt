-- What the numbers and values mean that the code of the walk keeps: of each set what is left, and its countField's latest reading. No history.
use Rattle.std.specs.Bool.{then_some}
use Rattle.std.specs.Prelude.{ℕ, ◌+◌, ◌*◌, List, get_or, set, ◌==◌, if◌then◌else◌}
use Rattle.std.specs.Option.{option_map}
use Rattle.std.specs.Prelude.{Option, None, Some}
use Rattle.walk.specs.Layout.{Layout}
use Rattle.walk.specs.Passes.{Rest, endless, more, Place, Stand, again, arrived, ready, beyond, Turn, goes_on, leaves, begins, stand}
use Rattle.walk.specs.Walk.{Arrival, not_current, over, enter, Settled, past, halted, due, settle}
use Rattle.walk.specs.ByPlace.{by_place}
use Rattle.walk.specs.declared.passes.Further.{Further}
use Rattle.walk.specs.declared.passes.Further.TheVariants as further
use Rattle.walk.specs.declared.passes.Turning.{Turning}
use Rattle.walk.specs.declared.passes.Turning.TheVariants as turning
use Rattle.walk.specs.declared.passes.Standing.{Standing}
use Rattle.walk.specs.declared.passes.Standing.TheVariants as standing
use Rattle.walk.specs.declared.passes.Arriving.{Arriving}
use Rattle.walk.specs.declared.passes.Arriving.TheVariants as arriving
use Rattle.walk.specs.declared.passes.Round.{Round}
use Rattle.walk.specs.declared.passes.Round.TheVariants as round
use Rattle.walk.specs.declared.passes.Settling.{Settling}
use Rattle.walk.specs.declared.passes.Settling.TheVariants as settling

abbrev pub rest_of : Further → Rest
rest_of further.Endless = endless
rest_of (further.More n) = more n

abbrev pub left_of : Option Further → Option Rest
left_of v = option_map rest_of v

-- THE NUMBERS OF THE PASSES: of set k four from place 4 k on, what is left of it and the latest reading of its countField. Beyond them all is 0.
-- What is left of it are three: 1 where it has a present pass, 1 where its passes never end, else how many more.
abbrev pub left_at : List ℕ → ℕ → Option Further
left_at w k =
    then_some (get_or w (4 * k) 0 == 1) (if get_or w (4 * k + 1) 0 == 1 then further.Endless else further.More (get_or w (4 * k + 2) 0))

abbrev pub with_numbers : List ℕ → (k x y z : ℕ) → List ℕ
with_numbers w k x y z = set (set (set w (4 * k) x) (4 * k + 1) y) (4 * k + 2) z

-- what is left of set k is v
abbrev pub with_left : List ℕ → ℕ → Option Further → List ℕ
with_left w k None = with_numbers w k 0 0 0
with_left w k (Some further.Endless) = with_numbers w k 1 1 0
with_left w k (Some (further.More n)) = with_numbers w k 1 0 n

abbrev pub place_of : ℕ → List ℕ → Place
place_of o w = record { order = o; left = λ k. left_of (left_at w k) }

-- the latest readings of the countFields
abbrev pub memory_of : List ℕ → ℕ → ℕ
memory_of w = λ k. get_or w (4 * k + 3) 0

abbrev pub turn_of : Turning → Turn
turn_of turning.GoesOn = goes_on
turn_of turning.Leaves = leaves
turn_of (turning.Begins x) = begins (rest_of x)

-- at the order o
abbrev pub stand_of : Standing → ℕ → List ℕ → Stand
stand_of (standing.Again k start) o w = again k (place_of start.0 w)
stand_of (standing.Arrived k) o w = arrived k (place_of o w)
stand_of standing.Ready o w = ready (place_of o w)
stand_of standing.Beyond o w = beyond

-- the set that is arrived at, 0 for none
abbrev pub arrived_set : Standing → ℕ
arrived_set (standing.Again k start) = 0
arrived_set (standing.Arrived k) = k
arrived_set standing.Ready = 0
arrived_set standing.Beyond = 0

abbrev pub arrival_of : Arriving → Arrival
arrival_of arriving.NotCurrent = not_current
arrival_of arriving.Over = over
arrival_of (arriving.Enter x) = enter (rest_of x)

abbrev pub settled_of : Settling → List ℕ → Settled (ℕ → ℕ)
settled_of (settling.Due o) w = due (place_of o.0 w) (memory_of w)
settled_of settling.Halted w = halted
settled_of settling.Past w = past

-- one round of `settle`, with n more to come
abbrev pub round_of : Layout → ℕ → Round → List ℕ → Settled (ℕ → ℕ)
round_of L n (round.Settled x) w = settled_of x w
round_of L n (round.Over o) w = settle L (by_place L) n (stand L (place_of o.0 w)) (memory_of w)

-- the order behind the set that is passed over, 1 for none
abbrev pub over_order : Round → ℕ
over_order (round.Settled x) = 1
over_order (round.Over o) = o.0
