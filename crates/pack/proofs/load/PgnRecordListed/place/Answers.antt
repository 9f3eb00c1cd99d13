use Rattle.pack.proofs.Places.{past_out, rebased}
use Rattle.pack.specs.Placing.{past}
use Rattle.pack.proofs.Places.{along_none, along_put, along_read, along_value, placed_last, refused}
use Rattle.pack.proofs.Reading.{fields_reader}
use Rattle.pack.specs.Items.{fresh}
use Rattle.pack.specs.Format.{pgn_next, pgn_records}
use Rattle.pack.specs.Records.{read_pgn}
use Rattle.pack.proofs.load.PgnRecordListed.place.Goals as goal

pub returns-in_err-pgn : goal.returns-in_err-pgn
unfolding pgn_next
returns-in_err-pgn c =
    let s = c.args.reader.bytes.now in
    let g = read_pgn s (fresh c.args.reader.at) in
    past_out _ c.from_residual.ensures.1 (refused (along_none _ c.args.out.now) c.in_err-pgn.ensures ((fields_reader s c.args.self.0
    g.value.fields).sticky g.next))

pub returns : goal.returns
unfolding pgn_next pgn_records
returns c =
    let head = along_put (along_none c.args.reader c.args.out.now) c.put.ensures in
    let v = along_value head c.in_ok-pgn.ensures in
    rebased _ (past c.place_fields.result) (placed_last (along_read head c.in_ok-pgn.ensures) c.place_fields.ensures (rw v) (rw v))
