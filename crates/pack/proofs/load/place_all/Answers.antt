use Rattle.pack.proofs.Sections.{begun, upto_types, upto_lookups, upto_number, upto_trees, upto_tree, ends, ended, walk_refused, walked}
use Rattle.pack.proofs.Sections.{counted_before, types_counted}
use Rattle.pack.proofs.Places.{along_none}
use Rattle.pack.proofs.Reading.{type_reader}
use Rattle.pack.proofs.Whole.{version_ends, type_list_ends, types_ends, lookup_list_ends, tree_ends}
use Rattle.pack.specs.Format.{types, type_list, lookup_list, tree_start, offsets, pack_end}
use Rattle.pack.specs.Load.{load_index}
use Rattle.std.proofs.Common.{rules}
use native.Mathlib.Omega.{arith}
use mathlib.Core.Path.{refl}
use Rattle.pack.proofs.load.place_all.Goals as goal

pub place_list-requires : goal.place_list-requires
place_list-requires c s = (type_reader s).sticky

pub returns-in_err-next : goal.returns-in_err-next
returns-in_err-next c =
    walk_refused (along_none _ (record { work = c.args.work; count = 0 })) c.in_err-next.ensures c.from_residual.ensures.1 (version_ends c.args.pack.now)

pub returns-in_err-types : goal.returns-in_err-types
unfolding type_list
returns-in_err-types c =
    let a = begun {o = record { work = c.args.work; count = 0 }} refl c.in_ok-next.ensures in
    walk_refused a c.in_err-types.ensures c.from_residual-in_err-types.ensures.1 (type_list_ends c.args.pack.now)

pub returns-in_err-next-2 : goal.returns-in_err-next-2
unfolding types
returns-in_err-next-2 c =
    let a = begun {o = record { work = c.args.work; count = 0 }} refl c.in_ok-next.ensures in
    let b = upto_types a c.in_ok-types.ensures in
    walk_refused b.along c.in_err-next-2.ensures.reads c.from_residual-in_err-next-2.ensures.1 (rw b.types (types_ends c.args.pack.now))

pub returns-in_err-lookups : goal.returns-in_err-lookups
unfolding lookup_list
returns-in_err-lookups c =
    let a = begun refl c.in_ok-next.ensures in
    let b = upto_types a c.in_ok-types.ensures in
    let d = upto_lookups b c.in_ok-next-2.ensures in
    walk_refused d.along c.in_err-lookups.ensures c.from_residual-in_err-lookups.ensures.1 (lookup_list_ends c.args.pack.now)

pub returns-in_err-next-3 : goal.returns-in_err-next-3
unfolding tree_start
returns-in_err-next-3 c =
    let a = begun refl c.in_ok-next.ensures in
    let b = upto_types a c.in_ok-types.ensures in
    let d = upto_lookups b c.in_ok-next-2.ensures in
    let e = upto_number d c.in_ok-lookups.ensures in
    walk_refused e.0.along c.in_err-next-3.ensures.reads c.from_residual-in_err-next-3.ensures.1
    (rw e.1 (tree_ends c.args.pack.now 0 (omega arith)))

pub returns-in_err-nmea2000 : goal.returns-in_err-nmea2000
unfolding tree_start
returns-in_err-nmea2000 c =
    let a = begun refl c.in_ok-next.ensures in
    let b = upto_types a c.in_ok-types.ensures in
    let d = upto_lookups b c.in_ok-next-2.ensures in
    let e = upto_number d c.in_ok-lookups.ensures in
    let f = upto_trees e.0 e.1 c.in_ok-next-3.ensures in
    walk_refused f.along c.in_err-nmea2000.ensures.reads c.from_residual-in_err-nmea2000.ensures.1 (rw f.types (tree_ends c.args.pack.now 1 (omega arith)))

pub returns-in_err-j1939 : goal.returns-in_err-j1939
unfolding tree_start
returns-in_err-j1939 c =
    let a = begun refl c.in_ok-next.ensures in
    let b = upto_types a c.in_ok-types.ensures in
    let d = upto_lookups b c.in_ok-next-2.ensures in
    let e = upto_number d c.in_ok-lookups.ensures in
    let f = upto_trees e.0 e.1 c.in_ok-next-3.ensures in
    let g = upto_tree 0 f c.in_ok-nmea2000.ensures in
    walk_refused g.0.along c.in_err-j1939.ensures.reads c.from_residual-in_err-j1939.ensures.1 (rw g.0.types (tree_ends c.args.pack.now 2 (omega arith)))

pub returns-in_err-quick : goal.returns-in_err-quick
unfolding tree_start
returns-in_err-quick c =
    let a = begun refl c.in_ok-next.ensures in
    let b = upto_types a c.in_ok-types.ensures in
    let d = upto_lookups b c.in_ok-next-2.ensures in
    let e = upto_number d c.in_ok-lookups.ensures in
    let f = upto_trees e.0 e.1 c.in_ok-next-3.ensures in
    let g = upto_tree 0 f c.in_ok-nmea2000.ensures in
    let h = upto_tree 1 g.0 c.in_ok-j1939.ensures in
    walk_refused h.0.along c.in_err-quick.ensures.reads c.from_residual-in_err-quick.ensures.1 (rw h.0.types (tree_ends c.args.pack.now 3 (omega arith)))

pub returns-in_err-finish : goal.returns-in_err-finish
unfolding pack_end
returns-in_err-finish c =
    let a = begun refl c.in_ok-next.ensures in
    let b = upto_types a c.in_ok-types.ensures in
    let d = upto_lookups b c.in_ok-next-2.ensures in
    let e = upto_number d c.in_ok-lookups.ensures in
    let f = upto_trees e.0 e.1 c.in_ok-next-3.ensures in
    let g = upto_tree 0 f c.in_ok-nmea2000.ensures in
    let h = upto_tree 1 g.0 c.in_ok-j1939.ensures in
    let i = upto_tree 2 h.0 c.in_ok-quick.ensures in
    walk_refused i.0.along (ends c.in_err-finish.ensures) c.from_residual-in_err-finish.ensures.1 (λ _. refl)

pub returns : goal.returns
unfolding load_index offsets
returns c =
    let a = begun refl c.in_ok-next.ensures in
    let b = upto_types a c.in_ok-types.ensures in
    let d = upto_lookups b c.in_ok-next-2.ensures in
    let e = upto_number d c.in_ok-lookups.ensures in
    let f = upto_trees e.0 e.1 c.in_ok-next-3.ensures in
    let g = upto_tree 0 f c.in_ok-nmea2000.ensures in
    let h = upto_tree 1 g.0 c.in_ok-j1939.ensures in
    let i = upto_tree 2 h.0 c.in_ok-quick.ensures in
    let z = ended i.0 c.in_ok-finish.ensures in
    let same = i.0.along.put.same in
    let s = c.args.pack.now in
    let l = types_counted s refl c.requires z d.along.put in
    let m = counted_before s refl c.requires z 0 (omega arith) f.along.put in
    let n = counted_before s refl c.requires z 1 (omega arith) g.0.along.put in
    let o = counted_before s refl c.requires z 2 (omega arith) h.0.along.put in
    let p = counted_before s refl c.requires z 3 (omega arith) i.0.along.put in
    walked s refl c.requires z i.0.along.put (search rules) (rw (b.types, e.1, g.1, h.1, i.1, l, m, n, o, p))
