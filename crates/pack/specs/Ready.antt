-- For the layers above: a pack that `load` accepted with its work list, the work positions of its records, and what a view there is.
use Rattle.std.specs.Prelude.{ℕ, zero, suc, ◌+◌, ◌≤◌, ◌<◌, ◌≡◌, List, length, get_or, take}
use Rattle.pack.specs.Value.{Lookup, Pgn, Pack, pgns_of, no_pgn, lookup_at}
use Rattle.pack.specs.Items.{Cursor, fresh}
use Rattle.pack.specs.Format.{offsets}
use Rattle.pack.specs.Load.{accepted, verdict}
use Rattle.pack.specs.Meaning.{lookup_meaning, pgn_meaning, pack_of}
use Rattle.pack.specs.Trees.{protocol_of, section_of}
use Rattle.pack.specs.declared.load.Index.{Index}
use Rattle.pack.specs.declared.load.Section.{Section}
use Rattle.pack.specs.declared.lookup.LookupView.{LookupView}
use Rattle.pack.specs.declared.pgn.PgnView.{PgnView}

-- accepted, and the work list begins with the record offsets
pub record Ready (s w : List ℕ) : Type 0 where
  pub accepted : verdict s ≡ accepted
  pub begins : take (length (offsets s)) w ≡ offsets s

-- A record is at the offset that the work list has at p, and nothing in it is refused.
pub record Stands (s w : List ℕ) (p : ℕ) (next : Cursor → Cursor) : Type 0 where
  pub place : p < length w
  pub inside : get_or w p 0 ≤ length s
  pub clean : (next (fresh (get_or w p 0))).refused ≡ 0

-- ---- work positions

-- field type i is at i; the lookups follow, each with its entries behind it
abbrev pub place_of_lookup : Pack → ℕ → ℕ
place_of_lookup P zero = length P.fieldtypes
place_of_lookup P (suc i) = place_of_lookup P i + 1 + length (lookup_at P.lookups i).entries

-- the records of the first i PGNs
abbrev pub pgn_records_below : List Pgn → ℕ → ℕ
pgn_records_below ps zero = 0
pgn_records_below ps (suc i) = pgn_records_below ps i + 1 + length (get_or ps i no_pgn).fields

-- where tree t begins
abbrev pub place_of_tree : Pack → ℕ → ℕ
place_of_tree P zero = place_of_lookup P (length P.lookups)
place_of_tree P (suc t) = place_of_tree P t + pgn_records_below (pgns_of P t) (length (pgns_of P t))

abbrev pub place_of_pgn : Pack → ℕ → ℕ → ℕ
place_of_pgn P t i = place_of_tree P t + pgn_records_below (pgns_of P t) i

-- the count and place of the lookups, and of tree t
pub record LookupsAre (P : Pack) (lookups : Section) : Type 0 where
  pub count : lookups.count ≡ length P.lookups
  pub place : lookups.place ≡ place_of_lookup P 0

pub record TreeIs (P : Pack) (t : ℕ) (tree : Section) : Type 0 where
  pub count : tree.count ≡ length (pgns_of P t)
  pub place : tree.place ≡ place_of_tree P t

-- The index of a pack: the counts and places of its lists. The field types begin at 0, and nothing above needs the number of records.
pub record IndexIs (P : Pack) (i : Index) : Type 0 where
  pub types : i.types.count ≡ length P.fieldtypes
  pub lookups : LookupsAre P i.lookups
  pub trees : (t : ℕ) → t < 3 → TreeIs P t (section_of (protocol_of t) i)

-- p is the work position of lookup i
pub record LookupAt (s w : List ℕ) (i p : ℕ) : Type 0 where
  pub ready : Ready s w
  pub lookup : i < length (pack_of s).lookups
  pub place : p ≡ place_of_lookup (pack_of s) i

-- p is the work position of PGN i of tree t
pub record PgnAt (s w : List ℕ) (t i p : ℕ) : Type 0 where
  pub ready : Ready s w
  pub tree : t < 3
  pub pgn : i < length (pgns_of (pack_of s) t)
  pub place : p ≡ place_of_pgn (pack_of s) t i

-- ---- what a view is

-- the view of a lookup means it, and has the number of its entries
pub record LookupIs (s : List ℕ) (L : Lookup) (v : LookupView) : Type 0 where
  pub means : lookup_meaning s v L.entries ≡ L
  pub entries : v.entries ≡ length L.entries

-- the view of a PGN means it, has the number of its fields, and has no more sets than there is room for
pub record PgnIs (s : List ℕ) (G : Pgn) (v : PgnView) : Type 0 where
  pub means : pgn_meaning s v G.fields ≡ G
  pub fields : v.fields ≡ length G.fields
  pub places : v.places ≤ 4
