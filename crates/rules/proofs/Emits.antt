-- Laws of findings put into a buffer: nothing, two lists, a turn of a loop.
use Prim.Native.Nat.{ℕ, ◌+◌, ◌<◌}
use native.Mathlib.Omega.{arith}
use native.Mathlib.Numerals.{add-one}
use mathlib.Core.Path.{refl, ◌∙◌}
use mathlib.Core.List.{List, [], ◌++◌, foldl-append}
use Rattle.pack.specs.Notation.{concat_below}
use Rattle.rules.specs.declared.Finding.{Finding}
use Rattle.rules.specs.declared.emit.Findings.{Findings}
use Rattle.rules.specs.Emit.{put_one, Emitted, Reporting}

pub emitted_none : (o : Findings) → Emitted o [] o
emitted_none o = record { found = refl; same = refl }

pub emitted_append : {o o' o'' : Findings} {xs ys : List Finding} → Emitted o xs o' → Emitted o' ys o'' → Emitted o (xs ++ ys) o''
emitted_append {xs = xs} {ys = ys} p q = record { found = q.found ∙ rw (p.found, foldl-append put_one); same = q.same ∙ p.same }

-- a turn of a loop
pub emitted_turn : {o o' o'' : Findings} (turn : ℕ → List Finding) (k : ℕ) → Emitted o (concat_below turn k) o' → Emitted o' (turn k) o''
    → Emitted o (concat_below turn (k + 1)) o''
emitted_turn turn k p q = rw (add-one k) (emitted_append p q)

pub reporting_none : (o : Findings) (turn : ℕ → List Finding) (all : ℕ) → Reporting o turn all 0 o
reporting_none o turn all = record { turns = omega arith; emitted = emitted_none o }

pub reporting_turn : {o o' o'' : Findings} {turn : ℕ → List Finding} {all k : ℕ} → Reporting o turn all k o' → k < all
    → Emitted o' (turn k) o'' → Reporting o turn all (k + 1) o''
reporting_turn {turn = turn} {k = k} p h q = record { turns = omega (arith, h); emitted = emitted_turn turn k p.emitted q }
