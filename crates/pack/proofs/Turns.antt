-- A turn of a loop over an accepted pack's lookups, or a tree's PGNs: which of them the item is, and what is left.
use Prim.Native.Nat.{ℕ, zero, suc, ◌+◌, ◌-◌, ◌≤◌, ◌<◌}
use native.Mathlib.Omega.{arith}
use native.Mathlib.Decide.{dec_lt}
use mathlib.Core.Path.{◌≡◌, refl, ap, ◌∙◌, sym}
use mathlib.Core.List.{List, [], ◌∷◌, map}
use lib.ListN.{length}
use Rattle.std.specs.Bool.{then_some}
use Rattle.std.specs.List.{range_with_len, slice_get}
use Rattle.std.proofs.lemmas.List.FromFn.{get_or-map-range_with_len, length-map-range_with_len}
use Rattle.std.proofs.lemmas.Option.{slice_get-get_or, slice_get_past}
use Rattle.std.specs.Prelude.{Some}
use borrow.Author.Tests.{le-leb, lt-leb}
use Rattle.pack.specs.Notation.{◌<ᵇ◌}
use Rattle.pack.specs.Loaded.{LookupSpot, PgnSpot, lookup_spots, pgn_spots, lookup_spot, pgn_spot}
use Rattle.pack.specs.Loaded.{lookups_left, pgns_left}
use Rattle.pack.specs.Trees.{tree_number}
use Rattle.pack.specs.Meaning.{pack_of}
use Rattle.pack.specs.Ready.{PgnIs}
use Rattle.pack.specs.Value.{pgn_at}
use Rattle.pack.specs.declared.loaded.Lookups.{Lookups}
use Rattle.pack.specs.declared.loaded.Pgns.{Pgns}
use Rattle.pack.specs.declared.loaded.LookupRef.{LookupRef}
use Rattle.pack.specs.declared.loaded.PgnRef.{PgnRef}

-- what is given in turn: those from i on, of n
abbrev numbered : {A : Type 0} → (ℕ → A) → (i n : ℕ) → List A
numbered f i n = map f (range_with_len i (n - i))

-- the next of them, and the others
record Turn {A : Type 0} (f : ℕ → A) (i n : ℕ) (x : A) (rest : List A) : Type 0 where
  pub inside : i < n
  pub is : x ≡ f i
  pub left : rest ≡ numbered f (i + 1) n

turn_of : {A : Type 0} (f : ℕ → A) (i n : ℕ) (x : A) (rest : List A) → numbered f i n ≡ x ∷ rest → Turn f i n x rest
turn_of {A} f i n x rest e = go (n - i) refl e
  where
    go : (d : ℕ) → n - i ≡ d → numbered f i n ≡ x ∷ rest → Turn f i n x rest
    go zero q e = absurd (let z : [] ≡ x ∷ rest = rw q at e in let u : ◌≡◌ {A = ℕ} 0 1 = cc in omega arith)
    go (suc d) q e =
        let z = rw q at e in
        let h : n - (i + 1) ≡ d = omega arith in
        record { inside = omega arith; is = cc; left = (rw h cc) }

none_left : {A : Type 0} (f : ℕ → A) (i n : ℕ) → numbered f i n ≡ [] → n ≤ i
none_left f i n e = go (n - i) refl e
  where
    go : (d : ℕ) → n - i ≡ d → numbered f i n ≡ [] → n ≤ i
    go zero q e = omega arith
    go (suc d) q e = absurd (let z = rw q at e in let u : ◌≡◌ {A = ℕ} 0 1 = cc in omega arith)

-- the one of that number, as `nth` gives it
pub numbered_at : {A : Type 0} (f : ℕ → A) (n k : ℕ) → slice_get (numbered f 0 n) k ≡ then_some (k <ᵇ n) (f k)
numbered_at {A} f n k = go (dec_lt k n)
  where
    few : length (numbered f 0 n) ≡ n
    few = length-map-range_with_len f 0 (n - 0) ∙ omega arith

    go : Dec (k < n) → slice_get (numbered f 0 n) k ≡ then_some (k <ᵇ n) (f k)
    go (yes h) =
        rw (le-leb (suc k) n h)
        (slice_get-get_or (numbered f 0 n) k (f k) (omega (arith, few, h))
        ∙ ap (λ (x : A). Some x) (get_or-map-range_with_len f 0 (n - 0) k k (f k) (omega (arith, h)) (omega arith)))
    go (no h) =
        let l : n < suc k = omega (arith, h) in
        rw (lt-leb (suc k) n l) (slice_get_past (numbered f 0 n) k (omega (arith, few, h)))

-- x is lookup i of n, and the others are left
pub record LookupTurn (s w : List ℕ) (i n : ℕ) (x : LookupRef) (rest : List LookupSpot) : Type 0 where
  pub inside : i < n
  pub bytes : x.pack.bytes.now ≡ s
  pub work : x.pack.work.now ≡ w
  pub item : x.item ≡ i
  pub left : rest ≡ lookup_spots s w (i + 1) n

lookup_turn : (s w : List ℕ) (i n : ℕ) (x : LookupRef) (rest : List LookupSpot) → lookup_spots s w i n ≡ lookup_spot x ∷ rest → LookupTurn s w i n x rest
lookup_turn s w i n x rest e =
    let u = turn_of (λ k. record { bytes = s; work = w; item = k }) i n (lookup_spot x) rest e in
    record {
      inside = u.inside;
      bytes = ap (λ (o : LookupSpot). o.bytes) u.is;
      work = ap (λ (o : LookupSpot). o.work) u.is;
      item = ap (λ (o : LookupSpot). o.item) u.is;
      left = u.left;
    }

-- x is PGN i of n of tree t, and the others are left
pub record PgnTurn (s w : List ℕ) (t i n : ℕ) (x : PgnRef) (rest : List PgnSpot) : Type 0 where
  pub inside : i < n
  pub bytes : x.pack.bytes.now ≡ s
  pub work : x.pack.work.now ≡ w
  pub tree : tree_number x.protocol ≡ t
  pub item : x.item ≡ i
  pub left : rest ≡ pgn_spots s w t (i + 1) n

pgn_turn : (s w : List ℕ) (t i n : ℕ) (x : PgnRef) (rest : List PgnSpot) → pgn_spots s w t i n ≡ pgn_spot x ∷ rest → PgnTurn s w t i n x rest
pgn_turn s w t i n x rest e =
    let u = turn_of (λ k. record { bytes = s; work = w; tree = t; item = k }) i n (pgn_spot x) rest e in
    record {
      inside = u.inside;
      bytes = ap (λ (o : PgnSpot). o.bytes) u.is;
      work = ap (λ (o : PgnSpot). o.work) u.is;
      tree = ap (λ (o : PgnSpot). o.tree) u.is;
      item = ap (λ (o : PgnSpot). o.item) u.is;
      left = u.left;
    }

-- A loop's invariant: i of n lookups were given, and what the iterator has left are the others.
pub record LookupsGiven (s w : List ℕ) (n i : ℕ) (d : Lookups) : Type 0 where
  pub turns : i ≤ n
  pub left : lookups_left d ≡ lookup_spots s w i n

-- the turn, and the invariant behind it
pub lookups_turn : {s w : List ℕ} {n i : ℕ} {d : Lookups} (x : LookupRef) (e : Lookups) → LookupsGiven s w n i d
    → lookups_left d ≡ lookup_spot x ∷ lookups_left e → LookupTurn s w i n x (lookups_left e) × LookupsGiven s w n (i + 1) e
lookups_turn {s} {w} {n} {i} x e g h =
    let t = lookup_turn s w i n x (lookups_left e) (sym g.left ∙ h) in
    (t, record { turns = omega (arith, t.inside); left = t.left })

-- all were given
pub lookups_given : {s w : List ℕ} {n i : ℕ} {d : Lookups} → LookupsGiven s w n i d → lookups_left d ≡ [] → i ≡ n
lookups_given {s} {w} {n} {i} g h = omega (arith, g.turns, none_left (λ k. record { bytes = s; work = w; item = k }) i n (sym g.left ∙ h))

-- the same of the PGNs of tree t
pub record PgnsGiven (s w : List ℕ) (t n i : ℕ) (d : Pgns) : Type 0 where
  pub turns : i ≤ n
  pub left : pgns_left d ≡ pgn_spots s w t i n

pub pgns_turn : {s w : List ℕ} {t n i : ℕ} {d : Pgns} (x : PgnRef) (e : Pgns) → PgnsGiven s w t n i d → pgns_left d ≡ pgn_spot x ∷ pgns_left e
    → PgnTurn s w t i n x (pgns_left e) × PgnsGiven s w t n (i + 1) e
pgns_turn {s} {w} {t} {n} {i} x e g h =
    let u = pgn_turn s w t i n x (pgns_left e) (sym g.left ∙ h) in
    (u, record { turns = omega (arith, u.inside); left = u.left })

pub pgns_given : {s w : List ℕ} {t n i : ℕ} {d : Pgns} → PgnsGiven s w t n i d → pgns_left d ≡ [] → i ≡ n
pgns_given {s} {w} {t} {n} {i} g h = omega (arith, g.turns, none_left (λ k. record { bytes = s; work = w; tree = t; item = k }) i n (sym g.left ∙ h))

pub pgn_there : {s w : List ℕ} {t i : ℕ} (x : PgnRef) → pgn_spot x ≡ record { bytes = s; work = w; tree = t; item = i }
    → PgnIs s (pgn_at (pack_of s) t i) x.view
pgn_there x e =
    rw (ap (λ (o : PgnSpot). o.bytes) e, ap (λ (o : PgnSpot). o.tree) e, ap (λ (o : PgnSpot). o.item) e) at x.is
