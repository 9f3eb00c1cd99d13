use Rattle.pack.proofs.Few.{entries_few}
use Rattle.pack.specs.Ready.{LookupAt}
use native.Mathlib.Omega.{arith}
use Rattle.pack.proofs.loaded.LookupsIterator.next.Goals as goal

pub overflow_add-self-2 : goal.overflow_add-self-2
overflow_add-self-2 c =
    let i = c.args.self.now in
    let a : LookupAt i.pack.bytes.now i.pack.work.now i.item i.place =
    record { ready = i.pack.ready; lookup = omega (arith, i.pack.indexed.lookups.count, c.if-count-item.false); place = i.placed } in
    omega (arith, entries_few a)

pub overflow_add-self-3 : goal.overflow_add-self-3
overflow_add-self-3 c =
    let i = c.args.self.now in
    let a : LookupAt i.pack.bytes.now i.pack.work.now i.item i.place =
    record { ready = i.pack.ready; lookup = omega (arith, i.pack.indexed.lookups.count, c.if-count-item.false); place = i.placed } in
    omega (arith, entries_few a, c.lookup_of-view.ensures.entries)
