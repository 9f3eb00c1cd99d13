use Rattle.std.proofs.Math.Dec.{eqb}
use Rattle.std.specs.Cmp.Lexicographic.{pointwise}
use Rattle.std.specs.Prelude.{◌==◌, if◌then◌else◌}
use Rattle.numerals.specs.Numerals.{all_digits}
use Rattle.rules.specs.ReservedIds.{numbered}
use lib.ListN.{length, take, drop}
use Prim.Native.Nat.{ℕ}
use mathlib.Core.Bool.{false, ◌&&◌}
use mathlib.Core.List.{List, [], ◌∷◌}
use mathlib.Core.Path.{◌≡◌, refl, sym}
use Rattle.std.proofs.Math.Decide.{ℕ_discrete}
use borrow.Author.Tests.{eq-eqb, ne_eqb}
use Rattle.rules.proofs.reserved_ids.numbered.Goals as goal

-- a prefix, and digits behind it
said : (want id : List ℕ) → numbered want id ≡ (pointwise eqb (take (length want) id) want && all_digits (drop (length want) id))
unfolding numbered
said [] id = refl
said (w ∷ want) [] = refl
said (w ∷ want) (b ∷ id) = go (ℕ_discrete w b) (said want id)
  where
    go : Dec (w ≡ b) → numbered want id ≡ (pointwise eqb (take (length want) id) want && all_digits (drop (length want) id))
        → (if w == b then numbered want id else false)
        ≡ (eqb b w && pointwise eqb (take (length want) id) want && all_digits (drop (length want) id))
    go (yes e) rec = rw (e, eq-eqb b b refl) rec
    go (no n) rec = rw (ne_eqb w b n, ne_eqb b w (λ e. n (sym e)))

pub returns-in-Some : goal.returns-in-Some
returns-in-Some c =
    let h = c.in-Some.ensures.cases in
    rw (said c.args.want.now c.args.id.now, h.0, ← h.1) c.all_digits.ensures

pub returns-in-None : goal.returns-in-None
returns-in-None c = rw (said c.args.want.now c.args.id.now, c.in-None.ensures.cases)
