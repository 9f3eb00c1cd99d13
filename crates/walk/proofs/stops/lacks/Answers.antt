use Rattle.walk.proofs.Parts.{target_below}
use Rattle.pack.proofs.Few.{fields_few}
use Rattle.pack.specs.Items.{bytes_of}
use Rattle.pack.specs.Loaded.{pgn_value}
use native.Mathlib.Omega.{arith}
use mathlib.Core.Path.{sym}
use Rattle.walk.proofs.stops.lacks.Goals as goal

pub placed-requires : goal.placed-requires
placed-requires c =
    let s = c.args.found.now.pgn.pack.bytes.now in
    omega (
      arith,
      target_below (pgn_value c.args.found.now.pgn) (bytes_of s c.in-Some.id) c.in-Some-target.aim (sym c.in-Some-target.ensures),
      fields_few c.args.found.now.pgn.at,
    )
