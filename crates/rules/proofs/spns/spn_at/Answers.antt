use borrow.Author.Tests.{lt-ltb, le-ltb}
use Rattle.pack.specs.Loaded.{pgn_value}
use Rattle.pack.specs.Value.{Pgn, Field, field_at}
use Rattle.pack.specs.declared.field.FieldView.{FieldView}
use Rattle.rules.specs.Spns.{first_seen, unlike_first, spn_at}
use Prim.Native.Nat.{ℕ, ◌≤◌, ◌<◌}
use mathlib.Core.Path.{◌≡◌}
use Rattle.std.specs.Prelude.{None, Some}
use mathlib.Core.List.{List, [], ◌∷◌}
use Rattle.pack.specs.Meaning.{pack_of, field_meaning}
use Rattle.rules.specs.declared.Finding.{Finding}
use Rattle.rules.specs.Findings.{pgn_error}
use Rattle.rules.proofs.Emits.{emitted_none}
use Rattle.rules.proofs.spns.spn_at.Goals as goal

-- the rule at a field, said of the view
module _ (s : List ℕ) (pgns : List Pgn) (i k : ℕ) (F : Field) (f : FieldView) (is : field_meaning s f ≡ F) where
  absent : f.authored.spn ≡ None → spn_at pgns i k F.spn ≡ []
  unfolding spn_at
  absent e = rw (← is, e)

  beyond : (n : ℕ) → f.authored.spn ≡ Some n → 524287 < n → (X : Finding) → X ≡ pgn_error 42 2 1 i k 0 → spn_at pgns i k F.spn ≡ X ∷ []
  unfolding spn_at
  beyond n e h X q = rw (← is, e, lt-ltb _ _ h, q)

  within : (n : ℕ) → f.authored.spn ≡ Some n → n ≤ 524287 → spn_at pgns i k F.spn ≡ unlike_first pgns i k n (first_seen pgns n)
  unfolding spn_at
  within n e h = rw (← is, e, le-ltb _ _ h)

pub returns-in_default : goal.returns-in_default
returns-in_default c =
    let f = c.args.field.now in let g = f.pgn.now in
    rw (absent g.pack.bytes.now (pack_of g.pack.bytes.now).pgns_j1939 g.item f.index (field_at (pgn_value g) f.index) f.view f.means
    c.in_default.is) (emitted_none c.args.out.now)

pub returns-then-spn-gt-MAX_SPN : goal.returns-then-spn-gt-MAX_SPN
returns-then-spn-gt-MAX_SPN c =
    let f = c.args.field.now in let g = f.pgn.now in
    rw (beyond g.pack.bytes.now (pack_of g.pack.bytes.now).pgns_j1939 g.item f.index (field_at (pgn_value g) f.index) f.view f.means
    c.in-Some.spn c.in-Some.is c.if-spn-gt-MAX_SPN.true c.field_error.result (rw c.requires at c.field_error.ensures)) c.put.ensures

pub returns : goal.returns
returns c =
    let f = c.args.field.now in let g = f.pgn.now in
    rw (within g.pack.bytes.now (pack_of g.pack.bytes.now).pgns_j1939 g.item f.index (field_at (pgn_value g) f.index) f.view f.means
    c.in-Some.spn c.in-Some.is c.if-spn-gt-MAX_SPN.false) c.unlike_first.ensures
