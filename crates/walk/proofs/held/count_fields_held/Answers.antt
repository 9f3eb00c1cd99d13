use Rattle.walk.proofs.SetValues.{counts_miss, counts_all}
use Rattle.walk.proofs.Plain.{below_next}
use Rattle.walk.specs.Layout.{set_at}
use Rattle.walk.specs.Held.{count_field_held}
use mathlib.Core.Bool.{true}
use mathlib.Core.Path.{◌≡◌, sym, ◌∙◌}
use native.Mathlib.Omega.{arith}
use Prim.Native.Nat.{ℕ}
use Rattle.walk.proofs.held.count_fields_held.Goals as goal

pub returns-then-not-counter_held : goal.returns-then-not-counter_held
returns-then-not-counter_held c =
    λ L a. sym (counts_miss a c.loop-k.k (sym (c.counter_held.ensures L a) ∙ c.if-not-counter_held.true))

pub loop-k-preserved : goal.loop-k-preserved
loop-k-preserved c =
    record {
      so_far = λ L a. below_next (λ (j : ℕ). count_field_held L j (set_at L j).count_field ≡ true) (c.loop-k.invariant.so_far L a)
          (sym (c.counter_held.ensures L a) ∙ c.if-not-counter_held.false);
    }

pub returns : goal.returns
returns c = λ L a. sym (counts_all a (λ j l. c.loop-k.invariant.so_far L a j (omega (arith, l))))
