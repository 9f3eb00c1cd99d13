use Rattle.pack.proofs.Places.{placing_out}
use Rattle.pack.proofs.Places.{along_none, along_read, along_value, along_then, placed, refused}
use Rattle.pack.proofs.Reading.{pgn_next_reader, pgns_reader}
use Rattle.pack.specs.Items.{fresh, read_number}
use Rattle.pack.specs.Format.{pgns, pgn_offsets}
use Rattle.pack.proofs.load.place_tree.Goals as goal

pub place_list-requires : goal.place_list-requires
place_list-requires c s = (pgn_next_reader s c.args.types).sticky

pub returns-in_err-count : goal.returns-in_err-count
returns-in_err-count c =
    let s = c.args.reader.bytes.now in
    let n = read_number s (fresh c.args.reader.at) in
    placing_out _ c.from_residual.ensures.1 (refused (along_none c.args.reader c.args.offsets.now) c.in_err-count.ensures ((pgns_reader s
    c.args.types n.value).sticky n.next))

pub returns-in_err-next : goal.returns-in_err-next
unfolding pgns
returns-in_err-next c =
    let none = along_none c.args.reader c.args.offsets.now in
    let v = along_value none c.in_ok-count.ensures in
    placing_out _ c.from_residual-in_err-next.ensures.1 (refused (along_read none c.in_ok-count.ensures) c.in_err-next.ensures.reads (λ _. rw v))

pub returns : goal.returns
unfolding pgns pgn_offsets
returns c =
    let none = along_none c.args.reader c.args.offsets.now in
    let v = along_value none c.in_ok-count.ensures in
    placed _ _ (rw v at (along_then (along_read none c.in_ok-count.ensures) c.in_ok-next.ensures)) (rw v)
