use lib.ListN.{length, get_or-eq_default}
use Rattle.std.specs.Prelude.{Option, None, Some, IfSome}
use mathlib.Core.Path.{◌≡◌, sym, ◌∙◌, ap}
use Prim.Native.Nat.{ℕ, ◌+◌, ◌≤◌, ◌<◌}
use native.Mathlib.Omega.{arith}
use Rattle.walk.specs.SetsOf.{SetIs, IsSet}
use Rattle.walk.specs.Layout.{layout, no_set, set_or_empty}
use Rattle.walk.proofs.SetFacts.{layout_at}
use Rattle.walk.specs.declared.sets.Set.{Set}
use Rattle.pack.specs.Loaded.{pgn_value}
use Rattle.pack.specs.Value.{Repeating, Pgn, set_place}
use Rattle.pack.specs.Meaning.{repeating_meaning, optional_repeating}
use Rattle.pack.specs.declared.pgn.RepeatingView.{RepeatingView}
use Rattle.pack.proofs.SetSums.{SetFits, pgn_sets_law}
use Rattle.pack.proofs.Sets.{places_are, set_is}
use Rattle.walk.proofs.sets.set_in.Goals as goal

-- o is what stands there
fits : (o : Option RepeatingView) (G : Option Repeating) → optional_repeating o ≡ G → SetFits G → IfSome o (λ set. set.start.0 + set.count < 4294967296)
fits None G e f = tt
fits (Some x) G e f = omega (arith, f (repeating_meaning x) (sym e))

told : (p : Pgn) (k : ℕ) (o : Option RepeatingView) → optional_repeating o ≡ set_place p k → (v : Set)
    → SetIs p.fields (set_or_empty (optional_repeating o)) v → IsSet (layout p) k v
told p k o e v is = rw (layout_at p k, ← e) is

absent : (p : Pgn) (k : ℕ) → length p.sets ≤ k → (v : Set) → SetIs p.fields no_set v → IsSet (layout p) k v
absent p k h v is = rw (layout_at p k, get_or-eq_default p.sets None h) is

pub set_of-requires : goal.set_of-requires
set_of-requires c =
    let k = c.args.k in
    fits c.set_at.result _ (ap optional_repeating c.set_at.ensures ∙ set_is c.args.pgn.now.is k c.if-k-pgn.true)
    (pgn_sets_law c.args.pgn.now.at k)

pub returns-then-k-pgn : goal.returns-then-k-pgn
returns-then-k-pgn c =
    told (pgn_value c.args.pgn.now) c.args.k c.set_at.result
    (ap optional_repeating c.set_at.ensures ∙ set_is c.args.pgn.now.is c.args.k c.if-k-pgn.true) c.set_of.result
    c.set_of.ensures

pub returns : goal.returns
returns c =
    absent (pgn_value c.args.pgn.now) c.args.k
    (omega (arith, places_are c.args.pgn.now.is, c.if-k-pgn.false)) c.no_set.result (c.no_set.ensures (pgn_value c.args.pgn.now).fields)
