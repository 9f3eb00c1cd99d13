use Rattle.pack.proofs.Places.{past_out}
use Rattle.pack.proofs.Places.{along_none, along_put, along_read, along_same, along_value, placed, refused, fields_turn, field_offsets_turn, fields_stay}
use Rattle.pack.proofs.ReaderLaws.{outcome_ok}
use Rattle.pack.proofs.Free.{field_fits}
use Rattle.pack.specs.Items.{fresh}
use Rattle.pack.specs.Format.{fields, field_offsets, field_next}
use Rattle.pack.specs.Records.{read_field}
use Prim.Native.Nat.{◌+◌}
use native.Mathlib.Omega.{arith}
use mathlib.Core.Path.{◌≡◌, ◌∙◌, refl, ap}
use Rattle.pack.proofs.load.place_fields.Goals as goal

pub loop-i-init : goal.loop-i-init
unfolding fields field_offsets
loop-i-init c = record { along = along_none _ _; total = refl }

pub overflow_add-total : goal.overflow_add-total
overflow_add-total c =
    let f = read_field c.args.types c.loop-i.total c.loop-i.next.bytes.now (fresh c.loop-i.next.at) in
    let o = outcome_ok f c.in_ok-field.field c.in_ok-field.ensures.answer in
    omega (arith, (rw o.1 at (field_fits c.loop-i.next.bytes.now (fresh c.loop-i.next.at) c.args.types c.loop-i.total o.0)))

pub go_on-next-requires : goal.go_on-next-requires
go_on-next-requires c = c.in_ok-field.ensures.bytes ∙ c.loop-i.invariant.along.bytes

pub loop-i-preserved : goal.loop-i-preserved
unfolding field_next
loop-i-preserved c =
    let types = c.args.types in
    let s = c.args.reader.bytes.now in
    let k = fresh c.args.reader.at in
    let i = c.loop-i._i in
    let a = along_put c.loop-i.invariant.along c.put.ensures in
    let t = c.loop-i.invariant.total in
    record {
      along = rw (fields_turn s k types i, field_offsets_turn s k types i, ← t)
          (along_same (along_read a c.in_ok-field.ensures) c.go_on-next.ensures.bytes c.go_on-next.ensures.at);
      total = rw (fields_turn s k types i, ← t) (ap (λ r. c.loop-i.total + r.scaling.bits) (along_value a c.in_ok-field.ensures));
    }

pub returns-in_err-field : goal.returns-in_err-field
unfolding field_next
returns-in_err-field c =
    let stay = fields_stay c.args.reader.bytes.now (fresh c.args.reader.at) c.args.types c.loop-i._i c.args.n c.loop-i-test.true in
    past_out _ c.from_residual.ensures.1 (refused c.loop-i.invariant.along c.in_err-field.ensures (rw (← c.loop-i.invariant.total) at stay))

pub returns : goal.returns
returns c =
    let e : c.loop-i._i ≡ c.args.n = omega (arith, c.loop-i.auto._i-end, c.loop-i-test.false) in
    placed _ _ (rw e at c.loop-i.invariant.along) refl
