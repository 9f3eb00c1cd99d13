use Rattle.std.specs.Prelude.{◌==◌}
use Prim.Native.Nat.{ℕ}
use native.Mathlib.Omega.{arith}
use mathlib.Core.Bool.{Bool, true, false, not}
use mathlib.Core.Path.{◌≡◌, sym, ◌∙◌}
use borrow.Author.Tests.{eq-eqb, ne_eqb, ltb-true, ltb-false}
use Rattle.pack.specs.Notation.{◌<ᵇ◌}
use Rattle.pack.proofs.protocol.same_order.Goals as goal

other : (a b : ℕ) → (a <ᵇ b) ≡ true → false ≡ (a == b)
other a b e = let l = ltb-true a b e in sym (ne_eqb a b (λ q. omega (arith, l, q)))

neither : (a b : ℕ) → (a <ᵇ b) ≡ false → (r : Bool) → r ≡ (b <ᵇ a) → not r ≡ (a == b)
neither a b e true q = let l = ltb-true b a (sym q) in sym (ne_eqb a b (λ p. omega (arith, l, p)))
neither a b e false q = sym (eq-eqb a b (omega (arith, ltb-false a b e, ltb-false b a (sym q))))

pub returns-then-precedes : goal.returns-then-precedes
returns-then-precedes c =
    other c.args.a.0 c.args.b.0 (sym c.precedes.ensures ∙ c.if-precedes.true)

pub returns : goal.returns
returns c =
    neither c.args.a.0 c.args.b.0 (sym c.precedes.ensures ∙ c.if-precedes.false) _ c.precedes-2.ensures
