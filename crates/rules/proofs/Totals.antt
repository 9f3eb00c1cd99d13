-- A pack has few findings: what the counters of `check` ask for.
use Prim.Native.Nat.{ℕ, zero, suc, ◌+◌, ◌*◌, ◌≤◌}
use native.Mathlib.Omega.{arith}
use native.Mathlib.Nat.{mul-le-mul}
use mathlib.Core.Path.{◌≡◌}
use mathlib.Core.List.{List}
use lib.ListN.{length, get_or}
use Rattle.pack.specs.Value.{Pgn, Pack, pgns_of, no_pgn, pgn_at, lookup_at}
use Rattle.pack.specs.Format.{offsets}
use Rattle.pack.specs.Meaning.{pack_of}
use Rattle.pack.specs.Ready.{Ready, place_of_lookup, place_of_tree, pgn_records_below}
use Rattle.pack.proofs.Bounds.{records_bound}
use Rattle.pack.proofs.Sets.{sets_few}
use Rattle.pack.proofs.Values.{tree_place}
use Rattle.rules.specs.Bound.{most_findings, check_most}
use Rattle.rules.specs.Check.{check}
use Rattle.rules.specs.Search.{sum_below}

lookups_total : (P : Pack) (n : ℕ) → place_of_lookup P n ≡ length P.fieldtypes + n + sum_below (λ l. length (lookup_at P.lookups l).entries) n
lookups_total P zero = omega arith
lookups_total P (suc n) = omega (arith, lookups_total P n)

pgns_total : (ps : List Pgn) (n : ℕ) → pgn_records_below ps n ≡ n + sum_below (λ i. length (get_or ps i no_pgn).fields) n
pgns_total ps zero = omega arith
pgns_total ps (suc n) = omega (arith, pgns_total ps n)

all_records : (s w : List ℕ) → Ready s w → place_of_tree (pack_of s) 3 ≤ 1048576
unfolding offsets
all_records s w r = omega (arith, tree_place s 3 (omega arith), records_bound s w r)

places_total : (s : List ℕ) (t n : ℕ) → sum_below (λ i. length (pgn_at (pack_of s) t i).sets) n ≤ n * 4
places_total s t zero = omega arith
places_total s t (suc n) = omega (arith, places_total s t n, sets_few s t n)

square_few : (n : ℕ) → n ≤ 1048576 → n * (n + 9) ≤ 1099521064960
square_few n h = let k : n + 9 ≤ 1048585 = omega arith in mul-le-mul h k

pub findings_few : (s w : List ℕ) → Ready s w → length (check (pack_of s)) ≤ 1152921504606846975
unfolding most_findings
findings_few s w r =
    let P = pack_of s in
    let a = all_records s w r in
    let l = lookups_total P (length P.lookups) in
    let p0 = pgns_total (pgns_of P 0) (length (pgns_of P 0)) in
    let p1 = pgns_total (pgns_of P 1) (length (pgns_of P 1)) in
    let p2 = pgns_total (pgns_of P 2) (length (pgns_of P 2)) in
    let s0 = places_total s 0 (length (pgns_of P 0)) in
    let s1 = places_total s 1 (length (pgns_of P 1)) in
    let s2 = places_total s 2 (length (pgns_of P 2)) in
    let q0 = square_few (length (pgns_of P 0)) (omega arith) in
    let q1 = square_few (length (pgns_of P 1)) (omega arith) in
    let q2 = square_few (length (pgns_of P 2)) (omega arith) in
    omega (arith, check_most P)
