-- R20: what has no match duplicates none, and a count of hits.
use Rattle.std.specs.Prelude.{if◌then◌else◌, None}
use Prim.Native.Nat.{ℕ, ◌+◌, ◌≤◌}
use native.Mathlib.Omega.{arith}
use mathlib.Core.Path.{◌≡◌, refl}
use mathlib.Core.Bool.{Bool, true, false, ◌&&◌}
use mathlib.Core.List.{List}
use lib.ListN.{length, get_or}
use Rattle.pack.specs.Notation.{◌≐◌}
use Rattle.pack.specs.Value.{Pgn, no_pgn}
use Rattle.rules.specs.Search.{latest_below}
use Rattle.rules.specs.SearchLaws.{latest_none}
use Rattle.rules.specs.Variants.{has_match, match_key, in_group, duplicates}

-- a count of hits among the first i
pub hits_few : (hit : Bool) (count i : ℕ) → count ≤ i → (if hit then count + 1 else count) ≤ i + 1
hits_few true count i h = omega arith
hits_few false count i h = omega arith

never : (a x y k : Bool) → y ≡ false → (a && (x && y && k)) ≡ false
never true true y k e = rw e
never true false y k e = refl
never false x y k e = refl

pub unmatched : (t : ℕ) (pgns : List Pgn) (number i : ℕ) → has_match (get_or pgns i no_pgn) (length (get_or pgns i no_pgn).fields) ≡ false
    → latest_below (λ j. in_group t pgns number j && duplicates (get_or pgns j no_pgn) (get_or pgns i no_pgn)) i ≡ None
unfolding duplicates
unmatched t pgns number i h =
    latest_none (λ j. in_group t pgns number j && duplicates (get_or pgns j no_pgn) (get_or pgns i no_pgn)) i
    (λ j. never (in_group t pgns number j) (has_match (get_or pgns j no_pgn) (length (get_or pgns j no_pgn).fields))
    (has_match (get_or pgns i no_pgn) (length (get_or pgns i no_pgn).fields)) (match_key (get_or pgns j no_pgn) ≐ match_key (get_or pgns i no_pgn)) h)
