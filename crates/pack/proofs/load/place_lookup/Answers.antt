use Rattle.pack.proofs.Places.{placing_out}
use Rattle.pack.proofs.Places.{along_none, along_put, along_read, along_value, along_then, placed, refused}
use Rattle.pack.proofs.Reading.{entry_reader, entries_reader}
use Rattle.pack.specs.Items.{fresh}
use Rattle.pack.specs.Format.{entries, entry_offsets, lookup_next, lookup_records}
use Rattle.pack.specs.Records.{read_lookup}
use Rattle.pack.proofs.load.place_lookup.Goals as goal

pub place_list-requires : goal.place_list-requires
place_list-requires c s = (entry_reader s c.in_ok-lookup.lookup.kind).sticky

pub returns-in_err-lookup : goal.returns-in_err-lookup
unfolding lookup_next
returns-in_err-lookup c =
    let s = c.args.reader.bytes.now in
    let l = read_lookup c.args.before s (fresh c.args.reader.at) in
    placing_out _ c.from_residual.ensures.1 (refused (along_none _ c.args.offsets.now) c.in_err-lookup.ensures ((entries_reader s l.value.kind
    l.value.entries).sticky l.next))

pub returns-in_err-next : goal.returns-in_err-next
unfolding lookup_next entries
returns-in_err-next c =
    let head = along_put (along_none c.args.reader c.args.offsets.now) c.put.ensures in
    let v = along_value head c.in_ok-lookup.ensures in
    placing_out _ c.from_residual-in_err-next.ensures.1 (refused (along_read head c.in_ok-lookup.ensures) c.in_err-next.ensures.reads (λ _. rw v))

pub returns : goal.returns
unfolding lookup_next lookup_records entries entry_offsets
returns c =
    let head = along_put (along_none c.args.reader c.args.offsets.now) c.put.ensures in
    let v = along_value head c.in_ok-lookup.ensures in
    placed _ _ (rw v at (along_then (along_read head c.in_ok-lookup.ensures) c.in_ok-next.ensures)) (rw v)
