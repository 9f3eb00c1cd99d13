use Rattle.walk.proofs.PassLaws.{round_not_current, round_over, round_enter, entered, kept_memory}
use Rattle.walk.specs.Walk.{due}
use Rattle.walk.specs.State.{arrival_of, place_of, memory_of, rest_of}
use Rattle.std.specs.Prelude.{Some}
use Rattle.walk.specs.SetsOf.{value_at}
use Prim.Native.Nat.{ℕ}
use native.Mathlib.Omega.{arith}
use mathlib.Core.Path.{refl, ap, ◌∙◌}
use Rattle.walk.proofs.passes.Passes.at_set.Goals as goal

pub returns-in-NotCurrent : goal.returns-in-NotCurrent
returns-in-NotCurrent c =
    let w = c.args.self.now.numbers in let k = c.args.k in
    let p = place_of c.args.o.0 w in
    record {
      round = λ L a n. round_not_current L p (memory_of w) k (arrival_of c.arrive.result) (c.arrive.ensures L a k (a.set k) p refl (memory_of w) refl) n
          (ap arrival_of c.in-NotCurrent.is);
      memory = refl;
      end = λ h. omega (arith, c);
    }

pub returns-in-Over : goal.returns-in-Over
returns-in-Over c =
    let w = c.args.self.now.numbers in let t1 = c.args.sets in let k = c.args.k in
    let p = place_of c.args.o.0 w in
    record {
      round = λ L a n. round_over L p (memory_of w) k (arrival_of c.arrive.result) (c.arrive.ensures L a k (a.set k) p refl (memory_of w) refl) n
          (ap arrival_of c.in-Over.is) (place_of (value_at t1 k).end.0 w)
          (ap (λ (e : ℕ). place_of e w) (a.set k).end);
      memory = refl;
      end = λ h. h;
    }

pub returns-in-Enter : goal.returns-in-Enter
returns-in-Enter c =
    let w = c.args.self.now.numbers in let k = c.args.k in
    let w' = c.put_left.new.self.numbers in
    let o = c.args.o.0 in
    let p = place_of o w in
    let kept = kept_memory w w' (omega (arith, c)) k c.requires (Some c.in-Enter.further) c.put_left.ensures in
    record {
      round = λ L a n. ap (due (place_of o w')) kept
          ∙ round_enter L p (memory_of w) k (arrival_of c.arrive.result) (c.arrive.ensures L a k (a.set k) p refl (memory_of w) refl) n
          (rest_of c.in-Enter.further) (ap arrival_of c.in-Enter.is) (place_of o w')
          (entered w w' (omega (arith, c)) k c.requires (Some c.in-Enter.further) c.put_left.ensures (rest_of c.in-Enter.further) refl o);
      memory = kept;
      end = λ h. omega (arith, c);
    }
