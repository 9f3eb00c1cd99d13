use Rattle.std.specs.Prelude.{None, Some}
use Rattle.walk.proofs.Parts.{by_field, by_reading, by_need, by_reading_only, named_field, named_reading}
use Rattle.walk.specs.ByPlace.{placed}
use Rattle.walk.specs.Layout.{layout}
use Prim.Native.Nat.{suc}
use Rattle.pack.specs.Meaning.{pack_of, field_meaning}
use Rattle.pack.specs.Loaded.{pgn_value}
use Rattle.pack.specs.Value.{field_at}
use mathlib.Core.Path.{refl}
use Rattle.walk.proofs.stops.judge.Goals as goal

pub returns-in-Some : goal.returns-in-Some
returns-in-Some c =
    let same = c.field_ref-field.ensures in
    let s = c.args.found.now.pgn.pack.bytes.now in let k = c.args.k in let P = pack_of s in
    let p = pgn_value c.args.found.now.pgn in
    record {
      stop = by_field P p (placed (layout p) (suc k)) k c.args.reading (field_at p k) refl c.in-Some.stop
          (rw (same.pgn, same.index) at c.in-Some.ensures);
      named = tt;
      only = tt;
    }

pub returns-then-entry_missing : goal.returns-then-entry_missing
returns-then-entry_missing c =
    let f = c.field_ref-field.result in let same = c.field_ref-field.ensures in
    let s = c.args.found.now.pgn.pack.bytes.now in let k = c.args.k in let P = pack_of s in let reading = c.args.reading in
    let p = pgn_value c.args.found.now.pgn in
    let free = rw (same.pgn, same.index) at c.in_default.ensures in
    let named = named_field (field_meaning s f.view) (field_at p k) same.means c.fieldtype_lookup-lookup.ensures in
    record {
      stop = by_reading P p (placed (layout p) (suc k)) k reading (field_at p k) refl free
          c.entry_missing.result (named_reading named reading c.entry_missing.result c.entry_missing.ensures)
          c.if-entry_missing.true;
      named = tt;
      only = tt;
    }

pub returns-in-Some-need_stop : goal.returns-in-Some-need_stop
returns-in-Some-need_stop c =
    let f = c.field_ref-field.result in let same = c.field_ref-field.ensures in
    let s = c.args.found.now.pgn.pack.bytes.now in let k = c.args.k in let P = pack_of s in let reading = c.args.reading in
    let p = pgn_value c.args.found.now.pgn in
    let free = rw (same.pgn, same.index) at c.in_default.ensures in
    let named = named_field (field_meaning s f.view) (field_at p k) same.means c.fieldtype_lookup-lookup.ensures in
    record {
      stop = by_need P p (placed (layout p) (suc k)) k reading (field_at p k) refl free
          c.entry_missing.result (named_reading named reading c.entry_missing.result c.entry_missing.ensures)
          c.if-entry_missing.false (Some c.in-Some-need_stop.stop) (rw same.index at c.in-Some-need_stop.ensures);
      named = tt;
      only = tt;
    }

pub returns : goal.returns
returns c =
    let f = c.field_ref-field.result in let same = c.field_ref-field.ensures in
    let s = c.args.found.now.pgn.pack.bytes.now in let k = c.args.k in let P = pack_of s in let reading = c.args.reading in
    let p = pgn_value c.args.found.now.pgn in
    let free = rw (same.pgn, same.index) at c.in_default.ensures in
    let named = named_field (field_meaning s f.view) (field_at p k) same.means c.fieldtype_lookup-lookup.ensures in
    record {
      stop = by_need P p (placed (layout p) (suc k)) k reading (field_at p k) refl free
          c.entry_missing.result (named_reading named reading c.entry_missing.result c.entry_missing.ensures)
          c.if-entry_missing.false None (rw same.index at c.in_default-need_stop.ensures);
      named = named;
      only = record {
        only = λ other. by_reading_only P p (placed (layout p) (suc k)) k other (field_at p k) refl free
            (rw same.index at c.in_default-need_stop.ensures);
      };
    }
