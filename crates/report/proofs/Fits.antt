-- What a call says that it has written lies within the buffer.
use Prim.Native.Nat.{ℕ, ◌≤◌}
use native.Mathlib.Omega.{arith}
use mathlib.Core.Path.{◌≡◌, refl}
use mathlib.Core.Bool.{Bool, true, false}
use mathlib.Core.List.{List}
use Rattle.std.specs.Prelude.{Option, None, Some, Result, Ok, Err}
use lib.ListN.{length}
use borrow.Author.Tests.{leb-true}
use Rattle.pack.specs.Notation.{◌≤ᵇ◌}
use Rattle.pack.specs.Value.{Bytes}
use Rattle.pack.specs.Load.{loaded}
use Rattle.pack.specs.Meaning.{pack_of}
use Rattle.pack.specs.declared.load.Index.{Index}
use Rattle.pack.specs.declared.load.Refusal.{Refusal}
use Rattle.rules.specs.PlaceCall.{fitted, placed}
use Rattle.rules.specs.PlaceText.{place_text}

fitted_fits : (b : Bytes) (n k : ℕ) → fitted b n ≡ Ok k → k ≤ n
fitted_fits b n k h = go (length b ≤ᵇ n) refl
  where
    go : (t : Bool) → (length b ≤ᵇ n) ≡ t → k ≤ n
    go true y = let z : ◌≡◌ {A = Result ℕ Refusal} (Ok (length b)) (Ok k) = rw y at h in let q : length b ≡ k = cc in omega (arith, leb-true (length b) n y)
    go false y = let u : ◌≡◌ {A = ℕ} 0 1 = (let z = rw y at h in cc) in absurd (omega arith)

pub written_fits : (s : List ℕ) (m place tree item n k : ℕ) → placed s m place tree item n ≡ Ok k → k ≤ n
unfolding placed
written_fits s m place tree item n k h = go (loaded s m) refl (place_text (pack_of s) place tree item) refl
  where
    go : (l : Result Index Refusal) → loaded s m ≡ l → (o : Option Bytes) → place_text (pack_of s) place tree item ≡ o → k ≤ n
    go (Err r) x o y = let u : ◌≡◌ {A = ℕ} 0 1 = (let z = rw x at h in cc) in absurd (omega arith)
    go (Ok i) x None y = let u : ◌≡◌ {A = ℕ} 0 1 = (let z = rw (x, y) at h in cc) in absurd (omega arith)
    go (Ok i) x (Some b) y = fitted_fits b n k (rw (x, y) at h)
