use Rattle.pack.specs.Meaning.{pack_of}
use native.Mathlib.Omega.{arith}
use lib.ListN.{length}
use Rattle.rules.proofs.Marking.{clear_replicate, room_replicate}
use Rattle.rules.proofs.lookup_uses.check_lookup_uses.Goals as goal

pub check_by_marks-requires : goal.check_by_marks-requires
check_by_marks-requires c =
    let pack = c.args.pack.now in
    record {
      clear = clear_replicate 4096;
      marks = room_replicate 4096 (length (pack_of pack.bytes.now).lookups) (omega (arith, pack.indexed.lookups.count, c.if-pack-gt4096.false));
    }
