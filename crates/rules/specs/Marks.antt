-- Marks at lookups, one for each by its index as far as there is room: what a function that marks promises.
use Rattle.std.specs.Prelude.{ℕ, ◌<◌, ◌≡◌, Bool, false, ◌||◌, List, length, get_or, set}
use Rattle.pack.specs.Value.{Bytes, Pack, lookup_at}

-- no mark
pub record Clear (m : List Bool) : Type 0 where
  pub none_set : (l : ℕ) → get_or m l false ≡ false

unfoldable pub marked_at : List Bool → ℕ → Bool → List Bool
marked_at m l b = set m l (get_or m l false || b)

-- a mark more at each lookup whose name has the property, whether it had one or not
pub record Marked (P : Pack) (m : List Bool) (q : Bytes → Bool) (m' : List Bool) : Type 0 where
  pub room : length m' ≡ length m
  pub marks : (l : ℕ) → l < length P.lookups → l < length m → get_or m' l false ≡ (get_or m l false || q (lookup_at P.lookups l).name)
