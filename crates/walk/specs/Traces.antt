-- What visits make of a trace: more of its readings are taken, and so many indexes more stand in its buffer.
use Rattle.std.specs.Prelude.{ℕ, zero, suc, ◌+◌, ◌≤◌, ◌≡◌, List, set}
use Rattle.walk.specs.Walk.{Answer}
use Rattle.walk.specs.WalkCall.{Told}
use Rattle.walk.specs.declared.trace.Trace.{Trace}
use Rattle.walk.specs.declared.walk.End.{End}

-- n visits, of field k and those that follow it, written from m on
abbrev pub written : List ℕ → (m k n : ℕ) → List ℕ
written v m k zero = v
written v m k (suc n) = set (written v m k n) (m + n) (k + n)

-- no fewer visits, of the same readings, in the same buffer
pub record Later (t t' : Trace) : Type 0 where
  pub at_least : t.made ≤ t'.made
  pub readings : t'.readings.now ≡ t.readings.now
  pub same : t'.out.ghost_name ≡ t.out.ghost_name

-- field k is visited
pub record Makes (t : Trace) (k : ℕ) (t' : Trace) : Type 0 where
  pub later : Later t t'
  pub made : t'.made ≡ t.made + 1
  pub out : t'.out.now ≡ set t.out.now t.made k

-- n fields are, field k and those that follow it
pub record MakesAll (t : Trace) (k n : ℕ) (t' : Trace) : Type 0 where
  pub later : Later t t'
  pub made : t'.made ≡ t.made + n
  pub out : t'.out.now ≡ written t.out.now t.made k n

-- the walk A is made and ended so
pub record Traced (A : Answer) (t : Trace) (e : End) (t' : Trace) : Type 0 where
  pub told : Told A t.out.now t'.out.now (record { end = e; visits = t'.made })
  pub same : t'.out.ghost_name ≡ t.out.ghost_name
