use Rattle.pack.specs.Loaded.{pgn_value}
use Rattle.rules.proofs.MatchKeys.{head_byte}
use native.Mathlib.Omega.{arith}
use Rattle.rules.proofs.match_keys.next.Goals as goal

pub returns : goal.returns
returns c =
    let g = c.args.pgn.now in
    record {
      came = head_byte g.pack.bytes.now (pgn_value g) c.args.key (omega (arith, c));
      next = record { field = c.requires.field };
    }
