use Rattle.std.specs.Prelude.{◌==◌}
use Rattle.pack.specs.Items.{bytes_of}
use Rattle.pack.specs.Loaded.{pgn_value}
use Rattle.pack.specs.Notation.{◌≐◌}
use Rattle.pack.specs.Value.{Pgn}
use Rattle.pack.specs.declared.loaded.PgnRef.{PgnRef}
use Rattle.rules.specs.PlaceText.{pgn_loc}
use Rattle.rules.specs.PlaceLaws.{same_place}
use borrow.Author.Tests.{eq-eqb, ne_eqb}
use native.Mathlib.Omega.{arith}
use Prim.Native.Nat.{◌<◌}
use mathlib.Core.Path.{◌≡◌, sym, ◌∙◌, ap}
use mathlib.Core.Bool.{◌&&◌}
use Rattle.rules.proofs.spn_names.same_place.Goals as goal

-- the test, said of the views
placed : (a b : PgnRef) → a.view.pgn < 10000000000 → b.view.pgn < 10000000000
    → (pgn_loc 1 (pgn_value a) ≐ pgn_loc 1 (pgn_value b))
    ≡ ((a.view.pgn == b.view.pgn) && (bytes_of a.pack.bytes.now a.view.id ≐ bytes_of b.pack.bytes.now b.view.id))
placed a b u v =
    let p = pgn_value a in let q = pgn_value b in
    let m : p.pgn ≡ a.view.pgn = ap (λ (P : Pgn). P.pgn) (sym a.is.means) in
    let n : q.pgn ≡ b.view.pgn = ap (λ (P : Pgn). P.pgn) (sym b.is.means) in
    let i : p.id ≡ bytes_of a.pack.bytes.now a.view.id = ap (λ (P : Pgn). P.id) (sym a.is.means) in
    let j : q.id ≡ bytes_of b.pack.bytes.now b.view.id = ap (λ (P : Pgn). P.id) (sym b.is.means) in
    same_place 1 p q (omega (arith, m, u)) (omega (arith, n, v)) ∙ (rw (m, n, i, j))

pub returns-then-a-b : goal.returns-then-a-b
returns-then-a-b c =
    let a = c.args.a.now in let b = c.args.b.now in
    sym (placed a b (omega (arith, c)) (omega (arith, c)) ∙ (rw (eq-eqb a.view.pgn b.view.pgn c.if-a-b.true, ← c.text.ensures) (sym c.text_is.ensures)))

pub returns-else-a-b : goal.returns-else-a-b
returns-else-a-b c =
    let a = c.args.a.now in let b = c.args.b.now in
    let other = ne_eqb a.view.pgn b.view.pgn c.if-a-b.false in
    other ∙ sym (placed a b (omega (arith, c)) (omega (arith, c)) ∙ (rw other))
