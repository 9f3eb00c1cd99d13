use Rattle.pack.proofs.Turns.{PgnTurn}
use Rattle.pack.specs.Loaded.{PgnSpot}
use Rattle.pack.specs.Meaning.{pack_of}
use Rattle.pack.specs.Value.{Pgn, pgn_at}
use Rattle.pack.specs.declared.loaded.PgnRef.{PgnRef}
use Rattle.rules.specs.PlaceText.{has_number}
use Rattle.rules.proofs.PgnSearches.{pgn_missed, pgn_hit, no_pgn}
use Prim.Native.Nat.{ℕ}
use borrow.Author.Tests.{eq-eqb, ne_eqb}
use mathlib.Core.List.{List}
use mathlib.Core.Path.{◌≡◌, ap, sym, ◌∙◌}
use Rattle.rules.proofs.places.has_number.Goals as goal

-- the number that the view of PGN i has
number_is : {s w : List ℕ} {t i n : ℕ} {x : PgnRef} {rest : List PgnSpot} → PgnTurn s w t i n x rest → x.view.pgn ≡ (pgn_at (pack_of s) t i).pgn
number_is {s} {w} {t} {i} {x = x} u =
    let m = rw (u.bytes, u.tree, u.item) at x.is in
    ap (λ (G : Pgn). G.pgn) m.means

pub returns-then-pgn-number : goal.returns-then-pgn-number
unfolding has_number
returns-then-pgn-number c =
    sym (pgn_hit c.loop-pgn.invariant c.in-Some.pgn c.next.new.self c.in-Some.ensures.steps
    (λ u. eq-eqb _ _ (sym (number_is u) ∙ c.if-pgn-number.true)))

pub loop-pgn-preserved : goal.loop-pgn-preserved
loop-pgn-preserved c =
    pgn_missed c.loop-pgn.invariant c.in-Some.pgn c.next.new.self c.in-Some.ensures.steps
    (λ u. rw (number_is u) at (ne_eqb c.in-Some.pgn.view.pgn c.args.number c.if-pgn-number.false))

pub returns : goal.returns
unfolding has_number
returns c = sym (no_pgn c.loop-pgn.invariant c.in-None.ensures.steps.0)
