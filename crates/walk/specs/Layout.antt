-- What the walk sees of a PGN: its fields, and its repeating sets one after the other.
-- "A field's index runs from 0 and its order from 1; sets and countField use orders": the field of index t has the order suc t.
use Rattle.std.specs.Prelude.{ℕ, zero, suc, ◌+◌, Bool, false, not, ◌&&◌, ◌||◌, List, length, get_or, ◌==◌}
use Rattle.std.specs.Prelude.{Option, None, Some}
use Rattle.pack.specs.Notation.{◌<ᵇ◌, ◌≤ᵇ◌, tab}
use Rattle.pack.specs.Value.{Field, Repeating, Pgn, set_place}
use Rattle.rules.specs.Search.{any_below, every_below}

pub record Layout : Type 0 where
  pub fields : List Field
  pub sets : List Repeating

-- A set that is absent, or past the last one: it is empty.
abbrev pub no_set : Repeating
no_set = record { count = 0; start = 0; count_field = None; nested = false }

abbrev pub set_or_empty : Option Repeating → Repeating
set_or_empty None = no_set
set_or_empty (Some s) = s

-- "two optional sets": the places one after the other, an absent one as an empty set.
abbrev pub layout : Pgn → Layout
layout p = record { fields = p.fields; sets = tab (λ k. set_or_empty (set_place p k)) (length p.sets) }

abbrev pub set_at : Layout → ℕ → Repeating
set_at L k = get_or L.sets k no_set

abbrev pub start : Layout → ℕ → ℕ
start L k = (set_at L k).start

-- the order after the last of set k
abbrev pub end : Layout → ℕ → ℕ
end L k = (set_at L k).start + (set_at L k).count

abbrev pub nonempty : Layout → ℕ → Bool
nonempty L k = 0 <ᵇ (set_at L k).count

-- set k holds the order o: an empty set holds none
abbrev pub holds : Layout → ℕ → ℕ → Bool
holds L k o = (start L k ≤ᵇ o) && (o <ᵇ end L k)

-- every set that holds the order a holds the order b
unfoldable pub sets_hold : Layout → ℕ → ℕ → Bool
sets_hold L a b = every_below (λ k. not (holds L k a) || holds L k b) (length L.sets)

-- two nonempty sets share an order
unfoldable pub share : Layout → ℕ → ℕ → Bool
share L j k = nonempty L j && nonempty L k && (start L j <ᵇ end L k) && (start L k <ᵇ end L j)

-- Set k is nested in the set j by its mark: for two sets, "set 2 is nested" (in set 1). Of more sets each is nested in the one just
-- before it, and so in that one's.
unfoldable pub nested_in : Layout → ℕ → ℕ → Bool
nested_in L j zero = false
nested_in L j (suc k) = (set_at L (suc k)).nested && ((j == k) || nested_in L j k)

-- Set k starts after the start of the one before it and ends within that one. For two sets, "set 2 starting after set 1's start and ending within it"
unfoldable pub inside_previous : Layout → ℕ → Bool
inside_previous L zero = false
inside_previous L (suc k) = (start L k <ᵇ start L (suc k)) && (end L (suc k) ≤ᵇ end L k)

-- STOP 1, of a set: "a nonempty set has start 0, runs past the fields, or is marked nested but is not set 2 starting after set 1's start
-- and ending within it"
unfoldable pub misplaced : Layout → ℕ → Bool
misplaced L k = nonempty L k && ((start L k == 0) || (suc (length L.fields) <ᵇ end L k) || (set_at L k).nested && not (inside_previous L k))

-- of two sets: "or set 2 is not nested and shares an order with set 1"
unfoldable pub clash : Layout → ℕ → ℕ → Bool
clash L j k = share L j k && not (nested_in L j k)

unfoldable pub stop_1 : Layout → Bool
stop_1 L = any_below (λ k. misplaced L k || any_below (λ j. clash L j k) k) (length L.sets)
