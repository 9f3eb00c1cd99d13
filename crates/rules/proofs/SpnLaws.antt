-- SPNs that are met with are carried by a field, and so named by one; and the field that names one.
-- ---- SPNs that are met with
use Rattle.std.specs.Prelude.{is_some, Option, None, Some}
use Prim.Native.Nat.{ℕ, ◌<◌}
use native.Mathlib.Omega.{arith}
use mathlib.Core.Bool.{true, ◌&&◌, false≢true}
use mathlib.Core.List.{List}
use Rattle.std.proofs.lemmas.Option.{none-some}
use mathlib.Core.Path.{◌≡◌, refl, sym, ap, ◌∙◌}
use lib.ListN.{length, get_or}
use borrow.Author.Tests.{eq-eqb}
use Rattle.pack.specs.Notation.{◌<ᵇ◌, ◌≤ᵇ◌, ◌≐◌}
use Rattle.pack.specs.Value.{Pgn, no_pgn, field_at}
use Rattle.pack.specs.Items.{bytes_of}
use Rattle.pack.specs.Loaded.{pgn_value}
use Rattle.pack.specs.Meaning.{pack_of}
use Rattle.pack.specs.declared.text.Text.{Text}
use Rattle.rules.specs.declared.spn_names.Carrier.{Carrier}
use Rattle.rules.specs.SpnNames.{is_number, spn_field, spn_pgn, name_in, name_by, spn_name, names_spn, earlier_if, earlier_in, earlier_spn, spn_from}
use Rattle.rules.specs.SpnNames.{least_spn_in, least_spn}
use Rattle.rules.specs.Namers.{NamesAmong}
use Rattle.rules.specs.SearchLaws.{first_is}
use Rattle.rules.proofs.Extremes.{max_is, min_is, first_given, least_given, optional_is, and_left, and_right}

number_given : (o : Option ℕ) (i : ℕ) → is_number o i ≡ true → is_some o ≡ true
number_given None i h = absurd (false≢true h)
number_given (Some n) i h = refl

from_is : (b s : ℕ) (o : Option ℕ) → spn_from b o ≡ Some s → o ≡ Some s
from_is b s None h = absurd (none-some s h)
from_is b s (Some x) h = ap Some (optional_is (b ≤ᵇ x) x s h).1

-- an SPN that a field carries is named
pub carried_named : (pgns : List Pgn) (s i k : ℕ) → i < length pgns → k < length (get_or pgns i no_pgn).fields
    → (field_at (get_or pgns i no_pgn) k).spn ≡ Some s → is_some (spn_pgn pgns s) ≡ true
unfolding spn_pgn spn_field
carried_named pgns s i k l m e =
    let p = get_or pgns i no_pgn in
    let hit : is_number (field_at p k).spn s ≡ true = ap (λ (o : Option ℕ). is_number o s) e ∙ eq-eqb s s refl in
    least_given (λ i. (get_or pgns i no_pgn).pgn) (λ i. is_some (spn_field (get_or pgns i no_pgn) s)) (length pgns) i l
    (first_given (λ k. is_number (field_at p k).spn s) (length p.fields) k m hit)

-- the least from b on
pub least_named : (pgns : List Pgn) (b s : ℕ) → least_spn pgns b ≡ Some s → is_some (spn_pgn pgns s) ≡ true
unfolding least_spn least_spn_in
least_named pgns b s h =
    let i = min_is (least_spn_in pgns b) (length pgns) s h in
    let p = get_or pgns i.index no_pgn in
    let k = min_is (λ k. spn_from b (field_at p k).spn) (length p.fields) s i.is in
    carried_named pgns s i.index k.index i.below k.below (from_is b s (field_at p k.index).spn k.is)

earlier_is : (pgns : List Pgn) (s i k e : ℕ) (o : Option ℕ) → earlier_if pgns s i k o ≡ Some e → names_spn pgns e i k ≡ true
earlier_is pgns s i k e None h = absurd (none-some e h)
earlier_is pgns s i k e (Some x) h =
    let a = (x <ᵇ s) && ((field_at (get_or pgns i no_pgn) k).name ≐ spn_name pgns s) in
    let q = optional_is (a && names_spn pgns x i k) x e h in
    ap (λ (y : ℕ). names_spn pgns y i k) (sym q.1) ∙ and_right a (names_spn pgns x i k) q.0

-- the earlier one of a name
pub earlier_named : (pgns : List Pgn) (s e : ℕ) → earlier_spn pgns s ≡ Some e → is_some (spn_pgn pgns e) ≡ true
unfolding earlier_spn earlier_in names_spn
earlier_named pgns s e h =
    let i = max_is (earlier_in pgns s) (length pgns) e h in
    let p = get_or pgns i.index no_pgn in
    let k = max_is (λ k. earlier_if pgns s i.index k (field_at p k).spn) (length p.fields) e i.is in
    let n = earlier_is pgns s i.index k.index e (field_at p k.index).spn k.is in
    number_given (spn_pgn pgns e) i.index (and_left (is_number (spn_pgn pgns e) i.index) (is_number (spn_field p e) k.index) n)

-- ---- the field that names an SPN

module _ (s : List ℕ) (spn : ℕ) (m : Carrier) (a : NamesAmong s spn (length (pack_of s).pgns_j1939) (Some m)) where
  pub pgn_is : spn_pgn (pack_of s).pgns_j1939 spn ≡ Some m.pgn.item
  unfolding spn_pgn
  pgn_is = sym a.least

  pub field_in : m.field < m.pgn.view.fields
  unfolding spn_field
  field_in =
      let p = pgn_value m.pgn in
      omega (arith, m.pgn.is.fields, (first_is (λ k. is_number (field_at p k).spn spn) (length p.fields) m.field a.is.field).0)

  pub name_is : (name : Text) → bytes_of m.pgn.pack.bytes.now name ≡ (field_at (pgn_value m.pgn) m.field).name
      → bytes_of s name ≡ spn_name (pack_of s).pgns_j1939 spn
  unfolding spn_name
  name_is name own =
      let pgns = (pack_of s).pgns_j1939 in
      let x = ap (name_by pgns spn) pgn_is in
      let y = ap (name_in pgns (get_or pgns m.pgn.item no_pgn)) (rw (a.is.bytes, a.is.tree) at a.is.field) in
      (rw (a.is.bytes, a.is.tree) at own) ∙ sym (x ∙ y)

-- where a field names the SPN, the search for it finds one
pub named_by_one : (s : List ℕ) (spn : ℕ) → NamesAmong s spn (length (pack_of s).pgns_j1939) None
    → is_some (spn_pgn (pack_of s).pgns_j1939 spn) ≡ true → ⊥
unfolding spn_pgn
named_by_one s spn a named = false≢true (ap is_some a.least ∙ named)
