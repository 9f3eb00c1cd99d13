use lib.ListN.{drop_of_length-le, length-drop, length, drop}
use lib.Seq.{take_all, take-nil}
use Prim.Native.Nat.{◌+◌, ◌-◌}
use native.Mathlib.Omega.{arith}
use mathlib.Core.Path.{◌≡◌, ◌∙◌, sym}
use Rattle.pack.proofs.text.part.Goals as goal

pub returns-then-n-s : goal.returns-then-n-s
returns-then-n-s c =
    let e : c.args.t.start + c.args.t.len - c.args.t.start ≡ c.args.t.len = omega (arith, c) in
    rw e

pub returns-else-n-s : goal.returns-else-n-s
returns-else-n-s c =
    let l = c.args.s.now in
    let a = c.args.t.start in
    let e : length (drop a l) ≡ length l - a = length-drop a l in
    take_all (length l - a) (drop a l) (omega (arith, c)) ∙ sym (take_all c.args.t.len (drop a l) (omega (arith, c)))

pub returns-else-a-s : goal.returns-else-a-s
returns-else-a-s c =
    let s = c.args.s.now in
    let e : drop c.args.t.start s ≡ _ = drop_of_length-le s {i = c.args.t.start} (omega (arith, c)) in
    rw e (sym (take-nil c.args.t.len))
