use Rattle.pack.specs.Loaded.{pgn_value}
use Rattle.pack.specs.Meaning.{pack_of}
use Rattle.walk.specs.Layout.{layout}
use Rattle.walk.specs.State.{place_of, memory_of}
use Rattle.walk.specs.StopParts.{Remembered}
use Rattle.walk.specs.Stops.{stop_at}
use Rattle.walk.specs.Traces.{Later}
use Rattle.walk.specs.Walk.{settled, walk}
use Rattle.walk.specs.ByPlace.{by_place}
use Rattle.walk.proofs.Walks.{Going}
use Prim.Native.Nat.{◌≤◌, ◌-◌}
use lib.ListN.{length}
use Rattle.walk.proofs.walk.walk_on.Given as goal

abbrev pub invariant-loop-reading : goal.invariant-loop-reading
invariant-loop-reading l =
    record {
      ahead : 1 ≤ l.here.0;
      later : Later l.initial.trace l.trace;
      going : Going (layout (pgn_value l.found.pgn)) (stop_at (pack_of l.found.pgn.pack.bytes.now) (pgn_value l.found.pgn))
          (walk (pack_of l.found.pgn.pack.bytes.now) (pgn_value l.found.pgn) l.initial.trace.readings.now) l.initial.trace.readings.now
          l.initial.trace.out.now l.trace.out.now l.trace.made
          (settled (layout (pgn_value l.found.pgn)) (by_place (layout (pgn_value l.found.pgn)))
          (place_of l.here.0 l.passes.numbers) (memory_of l.passes.numbers));
      remembered : Remembered (pack_of l.found.pgn.pack.bytes.now) (pgn_value l.found.pgn) l.memory;
    }

abbrev pub decreases-loop-reading : goal.decreases-loop-reading
decreases-loop-reading l = length l.trace.readings.now - l.trace.made
