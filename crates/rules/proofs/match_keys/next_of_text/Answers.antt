use Rattle.pack.specs.Loaded.{pgn_value}
use Rattle.pack.proofs.Bounds.{records_bound}
use Rattle.rules.proofs.MatchKeys.{text_ended, text_there, text_byte}
use native.Mathlib.Omega.{arith}
use mathlib.Core.Path.{◌∙◌}
use Rattle.rules.proofs.match_keys.next_of_text.Goals as goal

pub returns-then-b-eq0 : goal.returns-then-b-eq0
returns-then-b-eq0 c =
    let g = c.args.pgn.now in
    record {
      came = text_ended g.pack.bytes.now (pgn_value g) c.args.key (omega (arith, c)) c.text-b.result.now
          c.text-b.ensures c.if-b-eq0.true
          ∙ (rw (← g.is.fields) c.next_piece.ensures.came);
      next = c.next_piece.ensures.next;
    }

pub overflow_add-text : goal.overflow_add-text
overflow_add-text c =
    let g = c.args.pgn.now in
    omega (
      arith,
      records_bound g.pack.bytes.now g.pack.work.now g.pack.ready,
      text_there g.pack.bytes.now (pgn_value g) c.args.key (omega (arith, c)) c.text-b.result.now
          c.text-b.ensures c.if-b-eq0.false,
    )

pub returns : goal.returns
returns c =
    let g = c.args.pgn.now in
    record {
      came = text_byte g.pack.bytes.now (pgn_value g) c.args.key (omega (arith, c)) c.text-b.result.now
          c.text-b.ensures c.if-b-eq0.false;
      next = record { field = c.requires.field };
    }
