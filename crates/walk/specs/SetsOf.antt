-- What the values of the repeating sets are: a set's, and those of a layout.
use Rattle.std.specs.Prelude.{Option, None, Some, ℕ, zero, suc, ◌+◌, ◌≤◌, ◌≡◌, Bool, false, not, ◌&&◌, ◌||◌, List, length, get_or, ◌==◌}
use Rattle.pack.specs.Meaning.{opt_order}
use Rattle.pack.specs.Notation.{◌<ᵇ◌, ◌≤ᵇ◌}
use Rattle.pack.specs.Value.{Field, no_field, Repeating}
use Rattle.walk.specs.Layout.{Layout, set_at}
use Rattle.walk.specs.declared.sets.Set.{Set}
use Rattle.walk.specs.declared.sets.Sets.{Sets}

-- `res_bits` of the countField; 0 without one, or where no field has its order
abbrev pub count_bits : List Field → Option ℕ → ℕ
count_bits fields None = 0
count_bits fields (Some zero) = 0
count_bits fields (Some (suc t)) = (get_or fields t no_field).res_bits

-- v is the value of the set R of a PGN with these fields
pub record SetIs (fields : List Field) (R : Repeating) (v : Set) : Type 0 where
  pub start : v.start.0 ≡ R.start
  pub end : v.end.0 ≡ R.start + R.count
  pub counter : opt_order v.counter ≡ R.count_field
  pub bits : v.count_bits ≡ count_bits fields R.count_field
  pub nested : v.nested ≡ R.nested

-- v is the value of set k
abbrev pub IsSet : Layout → ℕ → Set → Type 0
IsSet L k v = SetIs L.fields (set_at L k) v

-- what stands beyond the last set: it is empty
abbrev pub empty_set : Set
empty_set =
    record { start = record { 0 = 0 }; end = record { 0 = 0 }; counter = None; count_bits = 0; nested = false }

-- set k
abbrev pub value_at : Sets → ℕ → Set
value_at v k = get_or v.sets k empty_set

-- the sets of L are these, and the rest empty
pub record SetsAre (L : Layout) (v : Sets) : Type 0 where
  pub fields : v.fields ≡ length L.fields
  pub few : length L.sets ≤ 4
  pub set : (k : ℕ) → IsSet L k (value_at v k)

-- ---- a set's value: its nonempty, holds, misplaced, as `Layout` says them of set k

abbrev pub has_orders : Set → Bool
has_orders v = v.start.0 <ᵇ v.end.0

abbrev pub in_set : Set → ℕ → Bool
in_set v o = (v.start.0 ≤ᵇ o) && (o <ᵇ v.end.0)

-- if it holds a it holds b
abbrev pub holds_both : Set → ℕ → ℕ → Bool
holds_both v a b = not (in_set v a) || in_set v b

abbrev pub sets_share : Set → Set → Bool
sets_share v w = has_orders v && has_orders w && (v.start.0 <ᵇ w.end.0) && (w.start.0 <ᵇ v.end.0)

-- so many fields; whether it lies inside the set before it
abbrev pub set_misplaced : Set → ℕ → Bool → Bool
set_misplaced v fields inside = has_orders v && ((v.start.0 == 0) || (suc fields <ᵇ v.end.0) || v.nested && not inside)

-- it starts after the start of the other and ends within it
abbrev pub set_inside : Set → Set → Bool
set_inside v outer = (outer.start.0 <ᵇ v.start.0) && (v.end.0 ≤ᵇ outer.end.0)
