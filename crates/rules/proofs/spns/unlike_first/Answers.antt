use Rattle.std.specs.Prelude.{◌==◌, is_some, Option, Some}
use Rattle.rules.proofs.Emits.{emitted_none}
use Rattle.rules.proofs.Extremes.{first_given}
use Rattle.rules.specs.Findings.{report_if, pgn_error}
use Rattle.rules.specs.declared.Finding.{Finding}
use lib.ListN.{length, get_or}
use borrow.Author.Tests.{eq-eqb}
use native.Mathlib.Omega.{arith}
use mathlib.Core.List.{List, []}
use mathlib.Core.Bool.{Bool, true, false, not, ◌&&◌}
use mathlib.Core.Path.{◌≡◌, refl, sym, ap, ◌∙◌}
use Prim.Native.Nat.{ℕ, ◌<◌}
use Rattle.rules.specs.Spns.{same_unit, same_scaling, first_seen, unlike_field, unlike_first}
use Rattle.rules.specs.SpnNames.{is_number, spn_field}
use Rattle.rules.specs.SearchLaws.{first_is}
use Rattle.rules.specs.Floats.{float_eq}
use Rattle.pack.specs.declared.field.ScalingView.{ScalingView}
use Rattle.pack.specs.declared.field.FieldView.{FieldView}
use Rattle.pack.specs.Loaded.{pgn_value}
use Rattle.pack.specs.Value.{Pgn, Field, no_pgn, field_at}
use Rattle.pack.specs.Meaning.{optional_bytes, pack_of, field_meaning}
use Rattle.rules.proofs.spns.unlike_first.Goals as goal

-- an SPN that a field carries is carried by a first one
carried_seen : (pgns : List Pgn) (s i k : ℕ) → i < length pgns → k < length (get_or pgns i no_pgn).fields
    → (field_at (get_or pgns i no_pgn) k).spn ≡ Some s → is_some (first_seen pgns s) ≡ true
unfolding first_seen spn_field
carried_seen pgns s i k l m e =
    let p = get_or pgns i no_pgn in
    let hit : is_number (field_at p k).spn s ≡ true = ap (λ (o : Option ℕ). is_number o s) e ∙ eq-eqb s s refl in
    first_given (λ j. is_some (spn_field (get_or pgns j no_pgn) s)) (length pgns) i l
    (first_given (λ h. is_number (field_at p h).spn s) (length p.fields) k m hit)

field_of_it : (p : Pgn) (spn h : ℕ) → spn_field p spn ≡ Some h → h < length p.fields
unfolding spn_field
field_of_it p spn h e = (first_is (λ x. is_number (field_at p x).spn spn) (length p.fields) h e).0

-- the first that carries it is field h of PGN j
module _
    (pgns : List Pgn) (i k spn j h : ℕ) (seen : first_seen pgns spn ≡ Some j) (field : spn_field (get_or pgns j no_pgn) spn ≡ Some h)
    (b : Bool) (at : b ≡ ((j == i) && (h == k))) where
  itself : b ≡ true → unlike_first pgns i k spn (first_seen pgns spn) ≡ []
  unfolding unlike_first unlike_field
  itself e = rw (seen, field, ← at, e)

  another : b ≡ false → (a : Bool) → a ≡ same_scaling (field_at (get_or pgns j no_pgn) h) (field_at (get_or pgns i no_pgn) k)
      → (F : Finding) → F ≡ pgn_error 42 3 1 i k j → unlike_first pgns i k spn (first_seen pgns spn) ≡ report_if (not a) F
  unfolding unlike_first unlike_field
  another e a d F q = rw (seen, field, ← at, e, d, q)

-- views compared as the code does
abbrev compared : List ℕ → ScalingView → ScalingView → Bool
compared s v w =
    (v.bits == w.bits)
    && float_eq v.resolution w.resolution
    && float_eq v.offset w.offset
    && same_unit (optional_bytes s v.unit) (optional_bytes s w.unit)

alike : (s : List ℕ) (g f : FieldView) (G F : Field) → field_meaning s g ≡ G → field_meaning s f ≡ F
    → (a : Bool) → a ≡ compared s g.scaling f.scaling → a ≡ same_scaling G F
unfolding same_scaling
alike s g f G F p q a h = h ∙ (λ j. same_scaling (p j) (q j))

pub first_seen-seen-requires : goal.first_seen-seen-requires
first_seen-seen-requires c =
    let f = c.args.field.now in let g = f.pgn.now in
    let own = ap (λ (F : Field). F.spn) (sym f.means) ∙ c.requires.spn in
    let inside : f.index < length (pgn_value g).fields = omega (arith, f.inside, g.is.fields) in
    carried_seen (pack_of g.pack.bytes.now).pgns_j1939 c.args.spn g.item f.index (rw c.requires.tree at g.at.pgn) (rw c.requires.tree at inside)
    (rw c.requires.tree at own)

pub returns-then-is_at : goal.returns-then-is_at
returns-then-is_at c =
    let f = c.args.field.now in let g = f.pgn.now in let x = c.first_seen-seen.result in let a = c.first_seen-seen.ensures in
    rw (itself (pack_of g.pack.bytes.now).pgns_j1939 g.item f.index c.args.spn x.pgn.item x.field a.seen (rw (a.bytes, a.tree) at a.field)
    c.is_at.result c.is_at.ensures c.if-is_at.true) (emitted_none c.args.out.now)

pub field-g-requires : goal.field-g-requires
field-g-requires c =
    let x = c.first_seen-seen.result in
    omega (arith, x.pgn.is.fields, field_of_it (pgn_value x.pgn) c.args.spn x.field c.first_seen-seen.ensures.field)

pub returns : goal.returns
returns c =
    let f = c.args.field.now in let g = f.pgn.now in let x = c.first_seen-seen.result in let a = c.first_seen-seen.ensures in let s = g.pack.bytes.now in
    let first = rw (a.bytes, a.tree) at c.field-g.ensures in
    let own = rw c.requires.tree at f.means in
    let same = alike s c.field-g.result f.view _ _ first own c.same_scaling-alike.result c.same_scaling-alike.ensures in
    rw (another (pack_of s).pgns_j1939 g.item f.index c.args.spn x.pgn.item x.field a.seen (rw (a.bytes, a.tree) at a.field)
    c.is_at.result c.is_at.ensures c.if-is_at.false c.same_scaling-alike.result same c.field_error.result (rw c.requires.tree at c.field_error.ensures))
    c.put_if.ensures
