use Rattle.std.specs.Prelude.{Ok, Err}
use Rattle.std.proofs.lemmas.Result.{err_from_is_err_and}
use Prim.Native.Nat.{ℕ, ◌≤◌}
use native.Mathlib.Omega.{arith}
use mathlib.Core.Path.{◌≡◌, ap, ◌∙◌, sym}
use mathlib.Core.List.{List}
use borrow.Author.Tests.{eqb-false}
use lib.ListN.{length, take}
use Rattle.pack.specs.Items.{Item}
use Rattle.pack.specs.Format.{pack_end, offsets}
use Rattle.pack.specs.Load.{most_bytes, load_index, over, Loads}
use Rattle.pack.specs.Placing.{PlacesAll}
use Rattle.pack.specs.declared.load.Index.{Index}
use Rattle.pack.specs.declared.load.Refusal.TheVariants.{Input}
use Rattle.pack.specs.declared.reader.InputRefusal.{InputRefusal}
use Rattle.pack.proofs.ReaderLaws.{outcome_ok, outcome_err}
use Rattle.pack.proofs.Told.{promised}
use Rattle.pack.proofs.Stores.{sets_over, take_stored}
use Rattle.pack.proofs.Loading.{input_refused, work_short, loads}
use Rattle.pack.proofs.load.load_by.Goals as goal

-- what a walk tells of the pack s
abbrev whole : List ℕ → Item Index
whole s = record { value = load_index s; next = pack_end s }

module _ {s w w' : List ℕ} {i : Index} (a : PlacesAll s w (Ok i) w') where
  accepted : (pack_end s).refused ≡ 0
  accepted = (outcome_ok (whole s) i a.answer).0

  index : i ≡ load_index s
  index = sym (outcome_ok (whole s) i a.answer).1

  counted : i.records ≡ length (offsets s)
  unfolding load_index
  counted = ap (λ (x : Index). x.records) index

  -- the answer where the work buffer v has room
  all : length s ≤ most_bytes → {v v' : List ℕ} → i.records ≤ length v → v' ≡ over (offsets s) v → Loads s v v' (Ok i)
  all h {v} {v'} l e =
      let r = loads s v h accepted (rw counted at l) in
      promised _ _ _ _ (rw index r.answer) (e ∙ r.work)

-- a walk that was refused: so is the pack
not_accepted : {s w w' : List ℕ} {f : InputRefusal} → PlacesAll s w (Err f) w' → (pack_end s).refused ≡ 0 → ⊥
not_accepted {s} {w} {w'} {f} a z = eqb-false _ _ (outcome_err (whole s) f a.answer).0 z

pub returns-in_err-index : goal.returns-in_err-index
returns-in_err-index c =
    let s = c.args.pack.now in
    let f = c.in_err-index.field-0.0 in
    let y = err_from_is_err_and {Q = λ y. y ≡ Input f} c.from_residual.result c.from_residual.ensures.1 in
    let e = (outcome_err (whole s) f c.in_err-index.ensures.answer).1 in
    let a = input_refused s c.args.work.now c.requires (not_accepted c.in_err-index.ensures) in
    promised _ _ _ _ (rw (y.1, y.2, e) a.answer) a.work

pub returns-then-work-n : goal.returns-then-work-n
returns-then-work-n c =
    let n = counted c.in_ok-index.ensures in
    let a = work_short c.args.pack.now c.args.work.now c.requires (accepted c.in_ok-index.ensures) (rw n at c.if-work-n.true) in
    promised _ _ _ _ (rw n a.answer) a.work

pub returns-then-n-short : goal.returns-then-n-short
returns-then-n-short c =
    let s = c.args.pack.now in
    let p = c.in_ok-index.ensures in
    let n = counted p in
    let t = take_stored c.args.short.now (offsets s) (omega (arith, c.if-n-short.true, n, c.place_all.auto.work)) in
    let front : take c.in_ok-index.index.records c.place_all.new.work ≡ offsets s = rw (n, p.work (accepted p)) t in
    all p c.requires c.if-work-n.false (rw front at c.copy.ensures)

pub returns-in_ok-place_all : goal.returns-in_ok-place_all
returns-in_ok-place_all c =
    let p = c.in_ok-index.ensures in
    let q = c.in_ok-place_all.ensures in
    let room : length (offsets c.args.pack.now) ≤ length c.args.work.now = omega (arith, c.if-work-n.false, counted p) in
    all p c.requires c.if-work-n.false (q.work (accepted q) ∙ sets_over c.args.work.now (offsets c.args.pack.now) room)
