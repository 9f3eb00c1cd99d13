use Rattle.std.specs.Prelude.{ℕ, zero, suc, ◌≡◌, ◌+◌, ◌*◌, ◌-◌, ◌%◌, ◌≤◌, ◌<◌, List, Option, None, true, false, Bool, leb, get_or}
use Rattle.std.proofs.Common.{rules}
use Rattle.std.specs.Bool.{then_some}
use Rattle.pack.specs.Items.{groups, capped}
use native.Mathlib.Omega.{arith}
use native.Mathlib.Numerals.{add-one}
use borrow.Author.Tests.{lt-leb}
use mathlib.Core.Path.{refl, ◌∙◌}
use Rattle.pack.proofs.number.decode.Goals as goal

one_more : (s : List ℕ) (e k : ℕ) → groups s e (k + 1) ≡ get_or s (e - (k + 1)) 0 % 128 + 128 * groups s e k
one_more s e k = rw add-one

no_less : (s : List ℕ) (e k j : ℕ) → groups s e k ≤ groups s e (k + j)
no_less s e k zero = let z : k + 0 ≡ k = omega arith in rw z (omega arith)
no_less s e k (suc j) = let z : k + suc j ≡ suc (k + j) = omega arith in rw z (let h = no_less s e k j in omega arith)

over : (most n : ℕ) → most < n → None ≡ capped most n
unfolding capped
over most n h = rw (lt-leb _ _ h)

fits : (most n : ℕ) → then_some (leb n most) n ≡ capped most n
unfolding capped
fits most n = go (leb n most) refl
  where
    go : (b : Bool) → leb n most ≡ b → then_some (leb n most) n ≡ capped most n
    go true e = rw e
    go false e = rw e

pub returns-in_err-checked_mul-clause-is : goal.returns-in_err-checked_mul-clause-is
returns-in_err-checked_mul-clause-is c =
    let s = c.args.s.now in
    let k = c.loop-k.k in
    let o = one_more s c.args.end k in
    let z : k + 1 + (c.args.n - (k + 1)) ≡ c.args.n = omega arith in
    let m = rw z at (no_less s c.args.end (k + 1) (c.args.n - (k + 1))) in
    let n : ◌≡◌ {A = Option ℕ} c.from_residual.result None = search rules in
    n ∙ over c.args.most (groups s c.args.end c.args.n) (omega (arith, c.in_err-checked_mul.ensures))

pub returns-clause-is : goal.returns-clause-is
returns-clause-is c =
    let e : c.args.n ≡ c.loop-k.k = omega arith in
    rw e (rw (c.then_some.ensures, c.loop-k.invariant) (fits c.args.most (groups c.args.s.now c.args.end c.loop-k.k)))
