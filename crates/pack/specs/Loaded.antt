-- Which records an accepted pack's references are of, and what the iterators over it have still to give.
use Rattle.std.specs.Prelude.{ℕ, ◌-◌, List, length, map}
use Rattle.std.specs.List.{range_with_len}
use Rattle.pack.specs.Value.{Lookup, Pgn, pgns_of, lookup_at, pgn_at}
use Rattle.pack.specs.Meaning.{pack_of}
use Rattle.pack.specs.Trees.{tree_number}
use Rattle.pack.specs.declared.loaded.LookupRef.{LookupRef}
use Rattle.pack.specs.declared.loaded.PgnRef.{PgnRef}
use Rattle.pack.specs.declared.loaded.Lookups.{Lookups}
use Rattle.pack.specs.declared.loaded.Pgns.{Pgns}

-- the lookup and the PGN that a reference is of
abbrev pub lookup_value : LookupRef → Lookup
lookup_value l = lookup_at (pack_of l.pack.bytes.now).lookups l.item

abbrev pub tree_of : PgnRef → ℕ
tree_of g = tree_number g.protocol

abbrev pub pgn_value : PgnRef → Pgn
pgn_value g = pgn_at (pack_of g.pack.bytes.now) (tree_number g.protocol) g.item

-- which lookup of which pack
pub record LookupSpot : Type 0 where
  pub bytes : List ℕ
  pub work : List ℕ
  pub item : ℕ

-- which PGN of which tree of which pack
pub record PgnSpot : Type 0 where
  pub bytes : List ℕ
  pub work : List ℕ
  pub tree : ℕ
  pub item : ℕ

-- those from i on, of n
abbrev pub lookup_spots : (s w : List ℕ) (i n : ℕ) → List LookupSpot
lookup_spots s w i n = map (λ k. record { bytes = s; work = w; item = k }) (range_with_len i (n - i))

abbrev pub pgn_spots : (s w : List ℕ) (t i n : ℕ) → List PgnSpot
pgn_spots s w t i n = map (λ k. record { bytes = s; work = w; tree = t; item = k }) (range_with_len i (n - i))

abbrev pub lookup_spot : LookupRef → LookupSpot
lookup_spot l = record { bytes = l.pack.bytes.now; work = l.pack.work.now; item = l.item }

abbrev pub pgn_spot : PgnRef → PgnSpot
pgn_spot g = record { bytes = g.pack.bytes.now; work = g.pack.work.now; tree = tree_number g.protocol; item = g.item }

abbrev pub lookups_left : Lookups → List LookupSpot
lookups_left i = lookup_spots i.pack.bytes.now i.pack.work.now i.item (length (pack_of i.pack.bytes.now).lookups)

abbrev pub pgns_left : Pgns → List PgnSpot
pgns_left i =
    pgn_spots i.pack.bytes.now i.pack.work.now (tree_number i.protocol) i.item
    (length (pgns_of (pack_of i.pack.bytes.now) (tree_number i.protocol)))
