-- The walk as code can keep it: by the place alone, and for each set the latest reading of its countField. It is the same walk (`agree`).
use Rattle.std.specs.Prelude.{ℕ, suc, Bool, false, ◌&&◌, ◌==◌, if◌then◌else◌}
use Rattle.std.specs.Prelude.{Option, None, Some}
use Rattle.pack.specs.Notation.{◌<ᵇ◌}
use Rattle.walk.specs.Layout.{Layout, set_at, sets_hold}
use Rattle.walk.specs.Walk.{Memory}

-- the field t comes before the order o, and every set that holds it holds o
unfoldable pub placed : Layout → ℕ → ℕ → Bool
placed L o t = (suc t <ᵇ o) && sets_hold L (suc t) o

-- the field t is the countField c
abbrev pub counts : Option ℕ → ℕ → Bool
counts None t = false
counts (Some c) t = c == suc t

abbrev pub by_place : Layout → Memory (ℕ → ℕ)
by_place L = record {
  fresh = λ k. 0;
  begin = λ g k. g;
  visit = λ g t r k. if counts (set_at L k).count_field t then r else g k;
  current = λ p g t. placed L p.order t;
  reading = λ g k t. g k;
}
