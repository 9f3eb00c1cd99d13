-- What one byte says: a number below 128, and a mark after which nothing follows.
use Rattle.pack.specs.Items.{Cursor}
use Prim.Native.Nat.{ℕ, ◌+◌, ◌-◌, ◌≤◌, ◌<◌}
use native.Mathlib.Omega.{arith}
use native.Mathlib.Nat.{mod-eq_of_lt}
use mathlib.Core.Path.{◌≡◌}
use mathlib.Core.Bool.{false}
use mathlib.Core.List.{List}
use borrow.Author.Tests.{eq-eqb, lt-ltb, le-ltb, le-leb}
use lib.ListN.{length, get_or, drop}
use lib.Seq.{drop-cons}
use Rattle.pack.specs.Items.{fresh, run, last_byte_at, groups, shortest, capped, largest32, give, ◌▷◌, read_wide, read_number, judged, read_code, read_mark}

-- a byte without the top bit is a number's last
pub run_ends : (s : List ℕ) (i : ℕ) → i < length s → get_or s i 0 < 128 → run (drop i s) ≡ 0
run_ends s i h l = rw (drop-cons s i 0 h, lt-ltb _ _ l)

module _ (s : List ℕ) (c : Cursor) (clean : c.refused ≡ 0) (inside : c.at < length s) where
  pub one_byte : (most : ℕ) → get_or s c.at 0 < 128 → get_or s c.at 0 ≤ most
      → read_wide most s c ≡ record { value = get_or s c.at 0; next = fresh (c.at + 1) }
  unfolding read_wide shortest capped
  one_byte most l m =
      let e : last_byte_at s c.at ≡ c.at = omega (arith, run_ends s c.at inside l) in
      let n : c.at + 1 - c.at ≡ 1 = omega arith in
      let f : c.at + 1 - 1 ≡ c.at = omega arith in
      let g : groups s (c.at + 1) 1 ≡ get_or s c.at 0 = rw (f, mod-eq_of_lt l) (omega arith) in
      rw (e, n, g, eq-eqb _ _ clean, lt-ltb _ _ inside, le-ltb c.at c.at (omega arith), le-leb _ _ m, clean)

  pub no_item : get_or s c.at 0 ≡ 0 → read_mark s c ≡ record { value = false; next = fresh (c.at + 1) }
  unfolding read_mark read_code read_number judged ◌▷◌ give
  no_item z = rw (one_byte largest32 (omega (arith, z)) (omega (arith, z)), z)
