use Rattle.pack.proofs.Few.{fields_few, tree_small}
use Rattle.pack.specs.Trees.{tree_number}
use Rattle.pack.specs.Ready.{PgnAt}
use native.Mathlib.Omega.{arith}
use Rattle.pack.proofs.loaded.PgnsIterator.next.Goals as goal

pub overflow_add-self-2 : goal.overflow_add-self-2
overflow_add-self-2 c =
    let i = c.args.self.now in
    let a : PgnAt i.pack.bytes.now i.pack.work.now (tree_number i.protocol) i.item i.place =
    record { ready = i.pack.ready; tree = tree_small i.protocol; pgn = omega (arith, i.counted, c.if-count-item.false); place = i.placed } in
    omega (arith, fields_few a)

pub overflow_add-self-3 : goal.overflow_add-self-3
overflow_add-self-3 c =
    let i = c.args.self.now in
    let a : PgnAt i.pack.bytes.now i.pack.work.now (tree_number i.protocol) i.item i.place =
    record { ready = i.pack.ready; tree = tree_small i.protocol; pgn = omega (arith, i.counted, c.if-count-item.false); place = i.placed } in
    omega (arith, fields_few a, c.pgn_of-view.ensures.fields)
