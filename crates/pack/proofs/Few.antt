-- Sizes of an accepted pack's lists, for counters of its records.
use Prim.Native.Nat.{ℕ, zero, suc, ◌+◌, ◌≤◌, ◌<◌}
use native.Mathlib.Omega.{arith}
use mathlib.Core.List.{List}
use mathlib.Core.Path.{◌≡◌, refl, ap, ◌∙◌}
use lib.ListN.{length}
use lib.Seq.{take-length}
use Rattle.pack.specs.Value.{Pgn, Pack, pgns_of, pgn_at, lookup_at}
use Rattle.pack.specs.Format.{offsets}
use Rattle.pack.specs.Trees.{tree_number, protocol_of, section_of}
use Rattle.pack.specs.declared.load.Index.{Index}
use Rattle.pack.specs.declared.load.Section.{Section}
use Rattle.pack.specs.declared.protocol.Protocol.{Protocol}
use Rattle.pack.specs.declared.protocol.Protocol.TheVariants.{Nmea2000, J1939, Quick}
use Rattle.pack.specs.Meaning.{pack_of}
use Rattle.pack.specs.Ready.{Ready, IndexIs, TreeIs, PgnAt, LookupAt, place_of_lookup, pgn_records_below}
use Rattle.pack.proofs.Positions.{type_stands, pgn_room, lookup_room}
use Rattle.pack.proofs.Bounds.{records_bound}

-- its own record offsets are a work list
own : {s w : List ℕ} → Ready s w → Ready s (offsets s)
own {s} r = record { accepted = r.accepted; begins = take-length (offsets s) }

pub fields_few : {s w : List ℕ} {t i p : ℕ} → PgnAt s w t i p → p + 1 + length (pgn_at (pack_of s) t i).fields ≤ 1048576
fields_few {s} {w} a =
    omega (arith, pgn_room (record { ready = own a.ready; tree = a.tree; pgn = a.pgn; place = a.place }), records_bound s w a.ready)

pub entries_few : {s w : List ℕ} {l p : ℕ} → LookupAt s w l p → p + 1 + length (lookup_at (pack_of s).lookups l).entries ≤ 1048576
entries_few {s} {w} a =
    omega (arith, lookup_room (record { ready = own a.ready; lookup = a.lookup; place = a.place }), records_bound s w a.ready)

records_grow : (ps : List Pgn) (i : ℕ) → i ≤ pgn_records_below ps i
records_grow ps zero = omega arith
records_grow ps (suc i) = omega (arith, records_grow ps i)

pub pgns_few : {s w : List ℕ} {t i p : ℕ} → PgnAt s w t i p → i < 1048576
pgns_few {s} {w} {t} {i} a = omega (arith, fields_few a, a.place, records_grow (pgns_of (pack_of s) t) i)

lookups_grow : (P : Pack) (i : ℕ) → i ≤ place_of_lookup P i
lookups_grow P zero = omega arith
lookups_grow P (suc i) = omega (arith, lookups_grow P i)

pub lookups_few : {s w : List ℕ} {l p : ℕ} → LookupAt s w l p → l < 1048576
lookups_few {s} {w} {l} a = omega (arith, entries_few a, a.place, lookups_grow (pack_of s) l)

pub types_few : {s w : List ℕ} → Ready s w → (i : ℕ) → i < length (pack_of s).fieldtypes → i < 1048576
types_few {s} {w} r i h = omega (arith, (type_stands s (offsets s) (own r) i h).place, records_bound s w r)

pub tree_small : (p : Protocol) → tree_number p < 3
tree_small Nmea2000 = omega arith
tree_small J1939 = omega arith
tree_small Quick = omega arith

-- a tree's count and place are those of its section of the index
pub at_tree : (P : Pack) (index : Index) → IndexIs P index → (t : ℕ) → t < 3 → (p : Protocol) (S : Section) → p ≡ protocol_of t → S ≡ section_of p index
    → TreeIs P t S
at_tree P index is t h p S x y =
    let e : S ≡ section_of (protocol_of t) index = y ∙ ap (λ (q : Protocol). section_of q index) x in
    record { count = ap (λ (T : Section). T.count) e ∙ (is.trees t h).count; place = ap (λ (T : Section). T.place) e ∙ (is.trees t h).place }

of_number : (p : Protocol) → p ≡ protocol_of (tree_number p)
of_number Nmea2000 = refl
of_number J1939 = refl
of_number Quick = refl

-- how many PGNs a tree has, by its section of the index
pub section_count : {P : Pack} {index : Index} → IndexIs P index → (p : Protocol) {S : Section} → S ≡ section_of p index
    → S.count ≡ length (pgns_of P (tree_number p))
section_count {P} {index} is p {S} e = (at_tree P index is (tree_number p) (tree_small p) p S (of_number p) e).count
