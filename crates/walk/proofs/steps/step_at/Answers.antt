use Rattle.pack.specs.Loaded.{pgn_value}
use Rattle.pack.specs.Meaning.{pack_of}
use Rattle.pack.proofs.Few.{fields_few}
use Rattle.walk.specs.Layout.{layout}
use Rattle.walk.specs.Walk.{settled}
use Rattle.walk.specs.State.{place_of, memory_of}
use Rattle.walk.specs.Stops.{stop_at}
use Rattle.walk.specs.ByPlace.{by_place}
use Rattle.walk.proofs.Walks.{step_stops, step_visits, goes_onward, same_left}
use mathlib.Core.Path.{refl}
use native.Mathlib.Omega.{arith}
use Rattle.walk.proofs.steps.step_at.Goals as goal

pub returns-in-Some : goal.returns-in-Some
returns-in-Some c =
    let f = c.args.found.now in let w = c.args.passes.now.numbers in
    let P = pack_of f.pgn.pack.bytes.now in
    let p = pgn_value f.pgn in
    record {
      step = step_stops (layout p) (stop_at P p) (place_of c.args.o.0 w) (memory_of w) c.args.reading c.index_of-field.result.0 c.index_of-field.ensures
          c.requires.first c.in-Some.ensures.stop refl;
      ahead = omega arith;
      remembered = c.in-Some.ensures.remembered;
    }

pub next_order-next-requires : goal.next_order-next-requires
next_order-next-requires c =
    omega (arith, c.requires.within, fields_few c.args.found.now.pgn.at)

pub returns : goal.returns
returns c =
    let f = c.args.found.now in let w = c.args.passes.now.numbers in let reading = c.args.reading in
    let P = pack_of f.pgn.pack.bytes.now in
    let p = pgn_value f.pgn in
    let w' = c.visit.new.self.numbers in
    record {
      step = step_visits (layout p) (stop_at P p) (place_of c.args.o.0 w) (memory_of w) reading c.index_of-field.result.0 c.index_of-field.ensures
          c.requires.first c.in_default.ensures.stop refl
          (settled (layout p) (by_place (layout p)) (place_of c.next_order-next.result.0 w') (memory_of w'))
          (goes_onward (layout p) (place_of c.args.o.0 w) (place_of c.next_order-next.result.0 w') (memory_of w) (memory_of w') reading
          (same_left w w' c.visit.ensures.left c.args.o.0 c.next_order-next.result.0 c.next_order-next.ensures)
          (c.visit.ensures.memory (layout p) f.sets_are));
      ahead = omega (arith, c.next_order-next.ensures);
      remembered = c.in_default.ensures.remembered;
    }
