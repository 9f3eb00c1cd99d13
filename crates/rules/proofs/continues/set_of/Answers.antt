use Rattle.std.specs.Prelude.{Option, None}
use Rattle.rules.proofs.Fields.{order_fits}
use Rattle.pack.proofs.Sets.{places_are, set_is}
use Rattle.pack.specs.declared.pgn.RepeatingView.{RepeatingView}
use Rattle.pack.specs.declared.pgn.PgnView.{PgnView}
use Rattle.pack.specs.Loaded.{pgn_value}
use Rattle.pack.specs.Meaning.{optional_repeating}
use Rattle.pack.specs.Ready.{PgnIs}
use Rattle.pack.specs.Value.{Pgn}
use Rattle.rules.specs.Continues.{holds_order, place_number, set_of}
use Rattle.rules.specs.Search.{latest_below}
use Prim.Native.Nat.{ℕ, zero, suc, ◌+◌, ◌-◌, ◌<◌}
use native.Mathlib.Omega.{arith}
use mathlib.Core.Bool.{Bool, true, false}
use mathlib.Core.List.{List}
use mathlib.Core.Path.{◌≡◌, sym, ap, ◌∙◌}
use lib.ListN.{get_or}
use Rattle.rules.proofs.continues.set_of.Invariants.{at_place}
use Rattle.rules.proofs.continues.set_of.Goals as goal

tried : (s : List ℕ) (p : Pgn) (v : PgnView) (is : PgnIs s p v) (k j o : ℕ) → j < v.places → o ≡ k + 1 → (set : Option RepeatingView)
    → set ≡ get_or v.sets j None → (r : Bool) → r ≡ holds_order (optional_repeating set) o → r ≡ at_place p k j
tried s p v is k j o h x set y r e = e ∙ (λ i. holds_order ((ap optional_repeating y ∙ set_is is j h) i) (x i))

module _ (q : ℕ → Bool) where
  hit : (j : ℕ) → 0 < j → q (j - 1) ≡ true → place_number (latest_below q j) ≡ j - 1 + 1
  hit zero h e = absurd (omega arith)
  hit (suc j) h e = let d : suc j - 1 ≡ j = omega arith in rw (rw d at e) (omega arith)

  missed : (j : ℕ) → 0 < j → q (j - 1) ≡ false → latest_below q j ≡ latest_below q (j - 1)
  missed zero h e = absurd (omega arith)
  missed (suc j) h e = let d : suc j - 1 ≡ j = omega arith in rw (d, rw d at e)

pub order-order-requires : goal.order-order-requires
order-order-requires c = order_fits c.args.pgn.now c.args.k c.requires

pub loop-j-init : goal.loop-j-init
loop-j-init c =
    let p = pgn_value c.args.pgn.now in
    ap (latest_below (at_place p c.args.k)) (sym (places_are c.args.pgn.now.is))

pub returns-then-holds_order : goal.returns-then-holds_order
unfolding set_of
returns-then-holds_order c =
    let k = c.args.k in let v = c.args.pgn.now.view in
    let p = pgn_value c.args.pgn.now in
    let e = tried _ p v c.args.pgn.now.is k (c.loop-j.j - 1) _ (omega (arith, c)) c.order-order.ensures _ c.set_at.ensures _ c.holds_order.ensures in
    sym (ap place_number c.loop-j.invariant ∙ hit (at_place p k) c.loop-j.j c.loop-j-test.true (sym e ∙ c.if-holds_order.true))

pub loop-j-preserved : goal.loop-j-preserved
loop-j-preserved c =
    let k = c.args.k in let v = c.args.pgn.now.view in
    let p = pgn_value c.args.pgn.now in
    let e = tried _ p v c.args.pgn.now.is k (c.loop-j.j - 1) _ (omega (arith, c)) c.order-order.ensures _ c.set_at.ensures _ c.holds_order.ensures in
    c.loop-j.invariant ∙ missed (at_place p k) c.loop-j.j c.loop-j-test.true (sym e ∙ c.if-holds_order.false)
