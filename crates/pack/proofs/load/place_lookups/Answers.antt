use Rattle.pack.proofs.Places.{past_out}
use Rattle.pack.proofs.Places.{along_none, along_value, along_then, placed, refused, lookups_turn, lookup_offsets_turn, lookups_stay}
use Rattle.pack.specs.Items.{Cursor, fresh}
use Rattle.std.specs.Prelude.{Option, Some}
use Rattle.pack.specs.declared.text.Text.{Text}
use Prim.Native.Nat.{ℕ}
use mathlib.Core.List.{List}
use Rattle.pack.specs.Format.{LookupState, lookups, lookup_offsets, lookup_next}
use native.Mathlib.Omega.{arith}
use mathlib.Core.Path.{◌≡◌, refl, ap, sym}
use Rattle.pack.proofs.load.place_lookups.Goals as goal

-- the state at lookup i, by the name that is at hand
state : (s : List ℕ) (c : Cursor) (i : ℕ) (before : Option Text) → before ≡ (lookups s c i).before
    → ◌≡◌ {A = LookupState} (lookups s c i) (record { next = (lookups s c i).next; before = before })
state s c i before e = λ j. record { next = (lookups s c i).next; before = sym e j }

pub loop-i-init : goal.loop-i-init
unfolding lookups lookup_offsets
loop-i-init c = record { along = along_none _ _; before = refl }

pub loop-i-preserved : goal.loop-i-preserved
unfolding lookup_next
loop-i-preserved c =
    let s = c.args.reader.bytes.now in
    let k = fresh c.args.reader.at in
    let i = c.loop-i._i in
    let a = c.loop-i.invariant.along in
    let st = state s k i c.loop-i.before c.loop-i.invariant.before in
    record {
      along = rw (lookups_turn s k i, lookup_offsets_turn s k i, st) (along_then a c.in_ok-name.ensures);
      before = rw (lookups_turn s k i, st) (ap Some (along_value a c.in_ok-name.ensures.reads));
    }

pub returns-in_err-name : goal.returns-in_err-name
returns-in_err-name c =
    let s = c.args.reader.bytes.now in
    let k = fresh c.args.reader.at in
    let i = c.loop-i._i in
    let st = state s k i c.loop-i.before c.loop-i.invariant.before in
    past_out _ c.from_residual.ensures.1 (refused c.loop-i.invariant.along c.in_err-name.ensures.reads
    (rw st at (lookups_stay s k i c.args.n c.loop-i-test.true)))

pub returns : goal.returns
returns c =
    let e : c.loop-i._i ≡ c.args.n = omega (arith, c.loop-i.auto._i-end, c.loop-i-test.false) in
    placed _ _ (rw e at c.loop-i.invariant.along) refl
