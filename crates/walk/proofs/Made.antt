-- Laws of traces: nothing is visited, one field more, one trace after the other.
use Prim.Native.Nat.{ℕ, ◌+◌, ◌≤◌}
use native.Mathlib.Omega.{arith}
use native.Mathlib.Numerals.{add-one}
use mathlib.Core.Path.{◌≡◌, refl, ap, ◌∙◌}
use mathlib.Core.List.{List}
use lib.ListN.{length}
use Rattle.walk.specs.Traces.{Later, Makes, MakesAll}
use Rattle.walk.specs.declared.trace.Trace.{Trace}

pub later_none : (t : Trace) → Later t t
later_none t = record { at_least = omega arith; readings = refl; same = refl }

pub later_then : {t t' t'' : Trace} → Later t t' → Later t' t'' → Later t t''
later_then a b = record { at_least = omega (arith, a.at_least, b.at_least); readings = b.readings ∙ a.readings; same = b.same ∙ a.same }

pub same_length : {t t' : Trace} → Later t t' → length t'.readings.now ≡ length t.readings.now
same_length a = ap (λ (l : List ℕ). length l) a.readings

-- the visits of a later trace had room in the buffer
pub room_left : {t t' : Trace} → Later t t' → t'.made ≤ length t.out.now
room_left {t} {t'} a = omega (arith, t'.read, same_length a, t.room)

pub makes_none : (t : Trace) (k : ℕ) → MakesAll t k 0 t
makes_none t k = record { later = later_none t; made = omega arith; out = refl }

pub makes_one : {t t' t'' : Trace} {k n : ℕ} → MakesAll t k n t' → Makes t' (k + n) t'' → MakesAll t k (n + 1) t''
makes_one {n = n} a b = record {
  later = later_then a.later b.later;
  made = omega (arith, a.made, b.made);
  out = b.out ∙ rw (a.made, a.out, add-one n);
}
