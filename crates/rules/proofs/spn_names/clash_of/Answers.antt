use Rattle.pack.specs.Meaning.{pack_of}
use Rattle.pack.specs.Value.{Pgn}
use Rattle.rules.proofs.Emits.{emitted_none}
use Rattle.rules.proofs.SpnLaws.{field_in, name_is, named_by_one, pgn_is, earlier_named}
use Rattle.rules.specs.SpnNames.{spn_pgn, earlier_spn, clash_at, clash_with, clash_of}
use Prim.Native.Nat.{ℕ}
use mathlib.Core.Path.{◌≡◌, sym}
use mathlib.Core.List.{List, []}
use Rattle.std.specs.Prelude.{None, Some}
use Rattle.rules.proofs.spn_names.clash_of.Goals as goal

alone : (pgns : List Pgn) (spn : ℕ) → None ≡ earlier_spn pgns spn → clash_of pgns (Some spn) ≡ []
unfolding clash_with
alone pgns spn h = rw (← h)

paired : (pgns : List Pgn) (spn e i j : ℕ) → Some e ≡ earlier_spn pgns spn → spn_pgn pgns e ≡ Some i → spn_pgn pgns spn ≡ Some j
    → clash_of pgns (Some spn) ≡ clash_at pgns e spn i j
unfolding clash_with
paired pgns spn e i j h x y = rw (← h, x, y)

pub unreachable-requires : goal.unreachable-requires
unreachable-requires c = named_by_one c.args.pack.now.bytes.now c.args.spn c.in_default.ensures c.requires

pub field_name-name-requires : goal.field_name-name-requires
field_name-name-requires c = field_in c.args.pack.now.bytes.now c.args.spn c.in-Some.namer c.in-Some.ensures

pub earlier_spn-requires : goal.earlier_spn-requires
earlier_spn-requires c =
    name_is c.args.pack.now.bytes.now c.args.spn c.in-Some.namer c.in-Some.ensures c.field_name-name.result c.field_name-name.ensures

pub returns-in_default-earlier_spn : goal.returns-in_default-earlier_spn
returns-in_default-earlier_spn c =
    rw (alone (pack_of c.args.pack.now.bytes.now).pgns_j1939 c.args.spn c.in_default-earlier_spn.ensures) (emitted_none c.args.out.now)

pub unreachable-requires-in_default-spn_pgn : goal.unreachable-requires-in_default-spn_pgn
unreachable-requires-in_default-spn_pgn c =
    let s = c.args.pack.now.bytes.now in let e = c.in-Some-earlier_spn.earlier in
    named_by_one s e c.in_default-spn_pgn.ensures (earlier_named (pack_of s).pgns_j1939 c.args.spn e (sym c.in-Some-earlier_spn.ensures))

pub returns : goal.returns
returns c =
    let s = c.args.pack.now.bytes.now in let spn = c.args.spn in let e = c.in-Some-earlier_spn.earlier in
    let other = c.in-Some-spn_pgn.other in let namer = c.in-Some.namer in
    rw (paired (pack_of s).pgns_j1939 spn e other.pgn.item namer.pgn.item c.in-Some-earlier_spn.ensures (pgn_is s e other c.in-Some-spn_pgn.ensures)
    (pgn_is s spn namer c.in-Some.ensures)) (rw c.in-Some.ensures.is.bytes at c.clash_at.ensures)
