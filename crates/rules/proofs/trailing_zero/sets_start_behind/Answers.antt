use Rattle.pack.proofs.Sets.{places_are, set_is}
use Rattle.pack.specs.declared.pgn.RepeatingView.{RepeatingView}
use Rattle.pack.specs.declared.pgn.PgnView.{PgnView}
use Rattle.pack.specs.Loaded.{pgn_value}
use Rattle.pack.specs.Meaning.{optional_repeating}
use Rattle.pack.specs.Ready.{PgnIs}
use Rattle.pack.specs.Value.{Repeating, Pgn}
use Rattle.rules.specs.Search.{every_below}
use Rattle.rules.specs.SearchLaws.{every_turn, every_missed}
use Rattle.rules.specs.TrailingZero.{starts_behind}
use Prim.Native.Nat.{ℕ, ◌<◌}
use native.Mathlib.Omega.{arith}
use mathlib.Core.Bool.{Bool}
use mathlib.Core.List.{List}
use Rattle.std.specs.Prelude.{Option, None}
use mathlib.Core.Path.{◌≡◌, sym, ap, ◌∙◌}
use lib.ListN.{length, get_or}
use Rattle.rules.proofs.trailing_zero.sets_start_behind.Invariants.{behind}
use Rattle.rules.proofs.trailing_zero.sets_start_behind.Goals as goal

tried : (s : List ℕ) (p : Pgn) (v : PgnView) (is : PgnIs s p v) (o k : ℕ) → k < v.places → (set : Option RepeatingView)
    → set ≡ get_or v.sets k None → (r : Bool) → r ≡ starts_behind (optional_repeating set) o → r ≡ behind p o k
tried s p v is o k h set y r e = e ∙ ap (λ (x : Option Repeating). starts_behind x o) (ap optional_repeating y ∙ set_is is k h)

pub returns-then-not-starts_behind : goal.returns-then-not-starts_behind
returns-then-not-starts_behind c =
    let below = c.loop-k-test.true in
    let o = c.args.order.0 in let p = pgn_value c.args.pgn.now in
    let e = tried _ p c.args.pgn.now.view c.args.pgn.now.is o c.loop-k.k below _ c.set_at-set.ensures _ c.starts_behind.ensures in
    sym (every_missed (behind p o) (length p.sets) c.loop-k.k (omega (arith, below, places_are c.args.pgn.now.is))
    (sym e ∙ c.if-not-starts_behind.true))

pub loop-k-preserved : goal.loop-k-preserved
loop-k-preserved c =
    let below = c.loop-k-test.true in
    let o = c.args.order.0 in let p = pgn_value c.args.pgn.now in
    let e = tried _ p c.args.pgn.now.view c.args.pgn.now.is o c.loop-k.k below _ c.set_at-set.ensures _ c.starts_behind.ensures in
    let h = sym e ∙ c.if-not-starts_behind.false in
    record { turns = omega (arith, below); so_far = every_turn (behind p o) c.loop-k.k ∙ (rw (c.loop-k.invariant.so_far, h)) }

pub returns : goal.returns
returns c =
    let p = pgn_value c.args.pgn.now in
    let e : length p.sets ≡ c.loop-k.k = omega (arith, places_are c.args.pgn.now.is, c.loop-k.invariant.turns, c.loop-k-test.false) in
    sym (ap (every_below (behind p c.args.order.0)) e ∙ c.loop-k.invariant.so_far)
