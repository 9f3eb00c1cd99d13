-- The visits of a walk so far, and which fields are current by them (document 01, "The walk").
use Rattle.std.specs.Prelude.{ℕ, suc, Bool, false, not, ◌&&◌, ◌||◌, List, [], ◌∷◌, length, ◌==◌, if◌then◌else◌}
use Rattle.pack.specs.Notation.{◌≤ᵇ◌}
use Rattle.walk.specs.Layout.{Layout, holds}
use Rattle.walk.specs.Passes.{Place, present}
use Rattle.rules.specs.Search.{every_below}

pub record Visit : Type 0 where
  pub field : ℕ
  pub reading : ℕ

pub record Visits : Type 0 where
  pub made : List Visit  -- the latest first
  pub begun : ℕ → ℕ  -- how many had been made when the present pass of set k began

-- the field t has been visited, after the first b visits
unfoldable pub visited : ℕ → List Visit → ℕ → Bool
visited b [] t = false
visited b (v ∷ vs) t = (v.field == t) && (b ≤ᵇ length vs) || visited b vs t

unfoldable pub latest : List Visit → ℕ → ℕ
latest [] t = 0
latest (v ∷ vs) t = if v.field == t then v.reading else latest vs t

-- "A needed field is current if visited and, where it lies in a nonempty set, visited in that set's present pass"
unfoldable pub is_current : Layout → Place → Visits → ℕ → Bool
is_current L p h t = visited 0 h.made t
    && every_below (λ k. not (holds L k (suc t)) || present (p.left k) && visited (h.begun k) h.made t) (length L.sets)
