use Rattle.walk.proofs.Parts.{no_value_held, a_value_held, source_later}
use Rattle.walk.specs.Held.{dynamic_value_held}
use Rattle.rules.specs.SearchLaws.{every_turn, every_missed}
use Rattle.pack.specs.Loaded.{pgn_value}
use borrow.Author.Rules.{rules}
use native.Mathlib.Omega.{arith}
use Rattle.std.specs.Prelude.{is_some}
use mathlib.Core.Bool.{true, false}
use mathlib.Core.Path.{◌≡◌, sym, ◌∙◌}
use lib.ListN.{length}
use Rattle.pack.specs.Meaning.{pack_of}
use Rattle.walk.proofs.held.dynamic_values_held.Goals as goal

pub loop-k-preserved-then-not-is_value : goal.loop-k-preserved-then-not-is_value
loop-k-preserved-then-not-is_value c =
    let P = pack_of c.args.found.now.pgn.pack.bytes.now in let p = pgn_value c.args.found.now.pgn in let k = c.loop-k.k in
    let value = rw (c.field_ref-field.ensures.pgn, c.field_ref-field.ensures.index) at c.is_value.ensures in
    record {
      so_far = every_turn (dynamic_value_held P p) k
          ∙ (rw c.loop-k.invariant.so_far (sym (no_value_held P p k c.is_value.result value c.if-not-is_value.true)));
      source = source_later c.loop-k.giver c.loop-k.invariant.source;
    }

pub returns-then-is_none : goal.returns-then-is_none
returns-then-is_none c =
    let P = pack_of c.args.found.now.pgn.pack.bytes.now in let p = pgn_value c.args.found.now.pgn in let k = c.loop-k.k in
    let value = rw (c.field_ref-field.ensures.pgn, c.field_ref-field.ensures.index) at c.is_value.ensures in
    let g = is_some c.latest_giver-giver.result in
    let e : g ≡ false = search rules in
    sym (every_missed (dynamic_value_held P p) (length p.fields) k (omega (arith, c.args.found.now.pgn.is.fields))
    (sym (a_value_held P p k c.is_value.result value c.if-not-is_value.false g c.latest_giver-giver.ensures.given) ∙ e))

pub loop-k-preserved : goal.loop-k-preserved
loop-k-preserved c =
    let P = pack_of c.args.found.now.pgn.pack.bytes.now in let p = pgn_value c.args.found.now.pgn in let k = c.loop-k.k in
    let value = rw (c.field_ref-field.ensures.pgn, c.field_ref-field.ensures.index) at c.is_value.ensures in
    let g = is_some c.latest_giver-giver.result in
    let e : g ≡ true = search rules in
    record {
      so_far = every_turn (dynamic_value_held P p) k ∙ (rw c.loop-k.invariant.so_far
          (sym (a_value_held P p k c.is_value.result value c.if-not-is_value.false g c.latest_giver-giver.ensures.given) ∙ e));
      source = source_later c.latest_giver-giver.result c.latest_giver-giver.ensures.source;
    }
