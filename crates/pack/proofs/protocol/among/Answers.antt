use Prim.Native.Nat.{ℕ, ◌+◌, ◌-◌, ◌≤◌, ◌<◌}
use native.Mathlib.Decide.{dec_lt}
use native.Mathlib.Omega.{arith}
use mathlib.Core.Path.{◌≡◌, sym, ◌∙◌}
use borrow.Author.Tests.{lt-ltb, le-ltb, le-leb, lt-leb, ltb-true, ltb-false}
use Rattle.pack.specs.Notation.{◌<ᵇ◌}
use Rattle.pack.proofs.protocol.among.Goals as goal

less : (o s c : ℕ) → s ≤ o → (o - s <ᵇ c) ≡ (o <ᵇ s + c)
less o s c h = go (dec_lt o (s + c))
  where
    go : Dec (o < s + c) → (o - s <ᵇ c) ≡ (o <ᵇ s + c)
    go (yes l) = rw (lt-ltb o (s + c) l, lt-ltb (o - s) c (omega arith))
    go (no l) = rw (le-ltb o (s + c) (omega arith), le-ltb (o - s) c (omega arith))

pub returns-then-precedes : goal.returns-then-precedes
returns-then-precedes c =
    rw (lt-leb c.args.start.0 c.args.order.0
    (ltb-true c.args.order.0 c.args.start.0 (sym c.precedes.ensures ∙ c.if-precedes.true)))

pub overflow_sub-result : goal.overflow_sub-result
overflow_sub-result c =
    omega (arith, ltb-false c.args.order.0 c.args.start.0 (sym c.precedes.ensures ∙ c.if-precedes.false))

pub returns : goal.returns
returns c =
    let low = ltb-false c.args.order.0 c.args.start.0 (sym c.precedes.ensures ∙ c.if-precedes.false) in
    rw (le-leb c.args.start.0 c.args.order.0 low) (less c.args.order.0 c.args.start.0 c.args.count low)
