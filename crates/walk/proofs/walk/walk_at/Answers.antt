use Rattle.walk.proofs.PassNumbers.{zeros_left, zeros_latest}
use Rattle.walk.proofs.Walks.{stopped_1}
use Rattle.walk.proofs.Readings.{remembered_zeros}
use Rattle.walk.specs.Layout.{layout}
use Rattle.pack.specs.Loaded.{pgn_value}
use Rattle.pack.specs.Meaning.{pack_of}
use Prim.Native.Nat.{ℕ}
use lib.ListN.{replicate}
use mathlib.Core.Path.{refl, sym, ◌∙◌}
use Rattle.walk.proofs.walk.walk_at.Goals as goal

pub returns-then-stop_1 : goal.returns-then-stop_1
returns-then-stop_1 c =
    let f = c.args.found.now in let P = pack_of f.pgn.pack.bytes.now in let p = pgn_value f.pgn in let t = c.args.trace.now in
    record {
      told = rw c.requires (stopped_1 P p t.readings.now t.out.now (sym (c.stop_1.ensures (layout p) f.sets_are) ∙ c.if-stop_1.true));
      same = refl;
    }

pub walk_on-requires : goal.walk_on-requires
walk_on-requires c =
    let f = c.args.found.now in let P = pack_of f.pgn.pack.bytes.now in let p = pgn_value f.pgn in
    record {
      remembered = remembered_zeros P p 32768 (replicate {A = ℕ} 512 0);
      left = zeros_left 16;
      latest = zeros_latest 16;
      no_stop_1 = sym (c.stop_1.ensures (layout p) f.sets_are) ∙ c.if-stop_1.false;
      none = c.requires;
    }
