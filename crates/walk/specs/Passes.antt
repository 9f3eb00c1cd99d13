-- Where a walk stands between two visits, by the passes of the sets (document 01, "The walk", and document 02, ticket 3): which pass ends, which set is
-- arrived at.
use Rattle.std.specs.Prelude.{ℕ, zero, suc, ◌-◌, ◌^◌, Bool, true, false, not, ◌&&◌, length, ◌==◌, if◌then◌else◌}
use Rattle.std.specs.Prelude.{Option, None, Some}
use Rattle.pack.specs.Notation.{◌<ᵇ◌, ◌≤ᵇ◌}
use Rattle.walk.specs.Layout.{Layout, start, end, nonempty}

-- A count that is not available: "A countField reading equal to 2^bits − 1, for `res_bits` of 2 to 64"
abbrev pub unavailable : ℕ → ℕ → Bool
unavailable bits reading = (2 ≤ᵇ bits) && (bits ≤ᵇ 64) && (reading == 2 ^ bits - 1)

-- The passes that the reading of a countField gives: such a one "now means no passes. All other widths keep their plain reading."
abbrev pub passes : ℕ → ℕ → ℕ
passes bits reading = if unavailable bits reading then 0 else reading

-- What is left of a set's passes after the present one: "Without countField its passes never end."
pub data Rest : Type 0 where
  endless : Rest
  more : ℕ → Rest

-- The order that is next, and of each set what is left after its present pass, if it has one: "a set that has been left has no present pass".
pub record Place : Type 0 where
  pub order : ℕ
  pub left : ℕ → Option Rest

-- "Fields go by order", from 1
abbrev pub first : Place
first = record { order = 1; left = λ k. None }

abbrev pub present : Option Rest → Bool
present None = false
present (Some x) = true

-- f but for k, where it is x
unfoldable pub put : {A : Type 0} → (ℕ → A) → ℕ → A → ℕ → A
put f k x j = if j == k then x else f j

abbrev pub goto : Place → ℕ → Place
goto p o = record { order = o; left = p.left }

abbrev pub goto_with : Place → ℕ → ℕ → Option Rest → Place
goto_with p o k x = record { order = o; left = put p.left k x }

-- Where the walk stands before the next visit.
pub data Stand : Type 0 where
  again : ℕ → Place → Stand  -- at the start of set k, of which another pass begins
  arrived : ℕ → Place → Stand  -- on arriving at set k
  ready : Place → Stand  -- at a field, and at no start of a nonempty set
  beyond : Stand  -- past the last order

-- "An empty set is never arrived at."
unfoldable pub arrives : Layout → Place → ℕ → Bool
arrives L p k = nonempty L k && (start L k == p.order) && not (present (p.left k))

-- of the sets below k, the one that is arrived at
unfoldable pub look : Layout → ℕ → Place → Stand
look L zero p = ready p
look L (suc k) p = elim (arrives L p k) [ true ↦ arrived k p | false ↦ look L k p ]

-- What comes of a set's pass: it goes on, it was the last and the set is left, or another begins.
pub data Turn : Type 0 where
  goes_on : Turn
  leaves : Turn
  begins : Rest → Turn

-- whether the pass ends here, and what is left after it
abbrev pub turn : Bool → Option Rest → Turn
turn false x = goes_on
turn true None = goes_on
turn true (Some endless) = begins endless
turn true (Some (more zero)) = leaves
turn true (Some (more (suc n))) = begins (more n)

-- The passes of the sets below k that end here are closed, the innermost set (the last) first.
unfoldable pub close : Layout → ℕ → Place → Stand
close L zero p = elim (length L.fields <ᵇ p.order) [ true ↦ beyond | false ↦ look L (length L.sets) p ]
close L (suc k) p = elim (turn (p.order == end L k) (p.left k)) [
  | goes_on ↦ close L k p
  | leaves ↦ close L k (goto_with p p.order k None)
  | begins x ↦ again k (goto_with p (start L k) k (Some x))
]

unfoldable pub stand : Layout → Place → Stand
stand L p = close L (length L.sets) p
