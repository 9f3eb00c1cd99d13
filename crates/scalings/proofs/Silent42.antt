-- What a silent R42 says: its proof over the definitions.
use Rattle.std.specs.Prelude.{is_some}
use Rattle.std.specs.Prelude.{◌==◌}
use Prim.Native.Nat.{ℕ, ◌≤◌, ◌<◌}
use mathlib.Core.Bool.{Bool, true, false, ◌&&◌, not, false≢true}
use mathlib.Core.List.{List, ◌++◌}
use mathlib.Core.Logic.{◌↔◌}
use Rattle.std.specs.Prelude.{Option, None, Some}
use mathlib.Core.Path.{◌≡◌, refl, sym, ap, ◌∙◌}
use lib.ListN.{length}
use borrow.Author.Tests.{eqb-true, eq-eqb, le-ltb, ltb-false, not-true}
use Rattle.pack.specs.Notation.{◌<ᵇ◌, concat_below}
use Rattle.pack.specs.Value.{Field, Pgn, Pack, pgns_of, pgn_at, field_at}
use Rattle.rules.specs.declared.Finding.{Finding}
use Rattle.rules.specs.Check.{check}
use Rattle.rules.specs.Findings.{report_if, pgn_error}
use Rattle.rules.specs.SearchLaws.{first_is, first_misses}
use Rattle.rules.specs.SpnNames.{is_number, spn_field}
use Rattle.rules.specs.Spns.{MAX_SPN, same_scaling, first_seen, unlike_field, unlike_first, spn_at, spns_elsewhere, check_scalings, check_spns}
use Rattle.rules.proofs.Candidates.{number_is}
use Rattle.rules.proofs.RuleNumbers.{only_spns}
use Rattle.rules.proofs.Extremes.{and_left, and_right, first_given}
use Rattle.scalings.specs.Scalings.{Carries, Alike, AllAlike, Unlike, has_cause, Silent42}
use Rattle.scalings.proofs.AlikeLaws.{both, alike_tested, tested_alike, alike_sym, alike_trans}
use Rattle.scalings.proofs.Causes.{cause_append, cause_only, none_below, below_none, met_below}

module _ (P : Pack) where
  abbrev j1939 : List Pgn
  j1939 = pgns_of P 1

  abbrev at_field : (i k : ℕ) → Field
  at_field i k = field_at (pgn_at P 1 i) k

  -- the first two parts have cause 1 alone
  elsewhere_none : (t : ℕ) → has_cause 42 3 (concat_below (λ i. spns_elsewhere t i (pgn_at P t i)) (length (pgns_of P t))) ≡ false
  unfolding spns_elsewhere
  elsewhere_none t =
      none_below 42 3 (λ i. spns_elsewhere t i (pgn_at P t i))
      (λ i. none_below 42 3 (λ k. report_if (is_some (field_at (pgn_at P t i) k).spn) (pgn_error 42 1 t i k 0))
      (λ k. other (is_some (field_at (pgn_at P t i) k).spn) t i k) (length (pgn_at P t i).fields))
      (length (pgns_of P t))
    where
      other : (b : Bool) (t i k : ℕ) → has_cause 42 3 (report_if b (pgn_error 42 1 t i k 0)) ≡ false
      other true t i k = refl
      other false t i k = refl

  abbrev scalings : List Finding
  scalings = concat_below (λ i. check_scalings j1939 i (pgn_at P 1 i)) (length j1939)

  by_scalings : has_cause 42 3 (check_spns P) ≡ has_cause 42 3 scalings
  unfolding check_spns
  by_scalings =
      let nmea2000 = concat_below (λ i. spns_elsewhere 0 i (pgn_at P 0 i)) (length (pgns_of P 0)) in
      let quick = concat_below (λ i. spns_elsewhere 2 i (pgn_at P 2 i)) (length (pgns_of P 2)) in
      cause_append 42 3 (nmea2000 ++ quick) scalings ∙ (rw (cause_append 42 3 nmea2000 quick, elsewhere_none 0, elsewhere_none 2))

  -- field k of PGN i, the first that carries the SPN
  record First (spn : ℕ) : Type 0 where
    pub i : ℕ
    pub k : ℕ
    pub seen : first_seen j1939 spn ≡ Some i
    pub at : spn_field (pgn_at P 1 i) spn ≡ Some k

  -- it carries it, and where a field carries it there is a first
  first_carries : (spn : ℕ) (f : First spn) → spn ≤ 524287 → Carries P spn f.i f.k
  unfolding first_seen spn_field
  first_carries spn f few =
      let a = first_is (λ j. is_some (spn_field (pgn_at P 1 j) spn)) (length j1939) f.i f.seen in
      let b = first_is (λ h. is_number (at_field f.i h).spn spn) (length (pgn_at P 1 f.i).fields) f.k f.at in
      record { pgn = a.0; field = b.0; carries = number_is (at_field f.i f.k).spn spn b.1; at_most = few }

  given_is : (o : Option ℕ) → is_some o ≡ true → (k : ℕ) × (o ≡ Some k)
  given_is None e = absurd (false≢true e)
  given_is (Some k) e = (k, refl)

  first_of : (spn i k : ℕ) → Carries P spn i k → First spn
  unfolding first_seen spn_field
  first_of spn i k c = go (first_seen j1939 spn) refl
    where
      inside : is_some (spn_field (pgn_at P 1 i) spn) ≡ true
      inside =
          first_given (λ h. is_number (at_field i h).spn spn) (length (pgn_at P 1 i).fields) k c.field
          (ap (λ (o : Option ℕ). is_number o spn) c.carries ∙ eq-eqb spn spn refl)

      go : (o : Option ℕ) → first_seen j1939 spn ≡ o → First spn
      go None e = absurd (false≢true (sym (first_misses (λ j. is_some (spn_field (pgn_at P 1 j) spn)) (length j1939) e i c.pgn) ∙ inside))
      go (Some j) e =
          let h = given_is (spn_field (pgn_at P 1 j) spn) (first_is (λ j. is_some (spn_field (pgn_at P 1 j) spn)) (length j1939) j e).1 in
          record { i = j; k = h.0; seen = e; at = h.1 }

  -- a field beside the first: it is the first, or R42 compares them
  abbrev unlike_test : (spn i k : ℕ) → First spn → Bool
  unlike_test spn i k f = not ((f.i == i) && (f.k == k)) && not (same_scaling (at_field f.i f.k) (at_field i k))

  has_if : (b : Bool) (i k j : ℕ) → has_cause 42 3 (report_if b (pgn_error 42 3 1 i k j)) ≡ b
  has_if true i k j = refl
  has_if false i k j = refl

  -- what R42 finds at a field that carries the SPN
  found_at : (spn i k : ℕ) (f : First spn) → Carries P spn i k → has_cause 42 3 (spn_at j1939 i k (at_field i k).spn) ≡ unlike_test spn i k f
  unfolding spn_at unlike_first unlike_field
  found_at spn i k f c =
      let within : (MAX_SPN <ᵇ spn) ≡ false = le-ltb MAX_SPN spn c.at_most in
      rw (c.carries, within, f.seen, f.at) (has_if (unlike_test spn i k f) i k f.i)

  -- ---- silence, and then every two alike

  data Beside (spn i k : ℕ) (f : First spn) : Type 0 where
    is_first : f.i ≡ i → f.k ≡ k → Beside spn i k f
    like_first : Alike (at_field f.i f.k) (at_field i k) → Beside spn i k f

  beside : (spn i k : ℕ) (f : First spn) → unlike_test spn i k f ≡ false → Beside spn i k f
  beside spn i k f e = go ((f.i == i) && (f.k == k)) refl (same_scaling (at_field f.i f.k) (at_field i k)) refl e
    where
      go : (a : Bool) → ((f.i == i) && (f.k == k)) ≡ a → (b : Bool) → same_scaling (at_field f.i f.k) (at_field i k) ≡ b
          → (not a && not b) ≡ false → Beside spn i k f
      go true u b v w = is_first (eqb-true _ _ (and_left (f.i == i) (f.k == k) u)) (eqb-true _ _ (and_right (f.i == i) (f.k == k) u))
      go false u true v w = like_first (alike_tested (at_field f.i f.k) (at_field i k) v)
      go false u false v w = absurd (false≢true (sym w))

  module _ (silent : has_cause 42 3 (check_spns P) ≡ false) where
    silent_at : (spn i k : ℕ) (f : First spn) → Carries P spn i k → Beside spn i k f
    unfolding check_scalings
    silent_at spn i k f c =
        let of_pgn = below_none 42 3 (λ i. check_scalings j1939 i (pgn_at P 1 i)) (length j1939) (sym by_scalings ∙ silent) i c.pgn in
        let of_field = below_none 42 3 (λ k. spn_at j1939 i k (at_field i k).spn) (length (pgn_at P 1 i).fields) of_pgn k c.field in
        beside spn i k f (sym (found_at spn i k f c) ∙ of_field)

    silent_alike : AllAlike P
    silent_alike spn i k j h c d different = let f = first_of spn i k c in go f (silent_at spn i k f c) (silent_at spn j h f d)
      where
        go : (f : First spn) → Beside spn i k f → Beside spn j h f → Alike (at_field i k) (at_field j h)
        go f (is_first a b) (is_first u v) = absurd (different (sym a ∙ u) (sym b ∙ v))
        go f (is_first a b) (like_first y) = let e : at_field f.i f.k ≡ at_field i k = λ x. at_field (a x) (b x) in rw e at y
        go f (like_first x) (is_first u v) =
            let e : at_field f.i f.k ≡ at_field j h = λ x. at_field (u x) (v x) in
            alike_sym (at_field j h) (at_field i k) (rw e at x)
        go f (like_first x) (like_first y) = alike_trans (at_field i k) (at_field f.i f.k) (at_field j h) (alike_sym _ _ x) y

  -- ---- a cause 3, and then two that are not alike

  unlike_at : (spn i k j h : ℕ) → Carries P spn i k → Carries P spn j h
      → (not ((j == i) && (h == k)) && not (same_scaling (at_field j h) (at_field i k))) ≡ true → Unlike P
  unlike_at spn i k j h c d e =
      let x = not-true _ (and_left (not ((j == i) && (h == k))) _ e) in
      let y = not-true _ (and_right (not ((j == i) && (h == k))) _ e) in
      record {
        spn = spn;
        i = i;
        k = k;
        j = j;
        h = h;
        here = c;
        there = d;
        different = λ p q. false≢true (sym x ∙ both (eq-eqb j i (sym p)) (eq-eqb h k (sym q)));
        unlike = λ a. false≢true (sym y ∙ tested_alike (at_field j h) (at_field i k) (alike_sym (at_field i k) (at_field j h) a));
      }

  -- a cause 3 at a field names two carriers that are not alike: this field and the first
  by_field : (i k : ℕ) → i < length j1939 → k < length (pgn_at P 1 i).fields → (o : Option ℕ) → (at_field i k).spn ≡ o
      → has_cause 42 3 (spn_at j1939 i k o) ≡ true → Unlike P
  unfolding spn_at
  by_field i k a b None u w = absurd (false≢true w)
  by_field i k a b (Some spn) u w = go (MAX_SPN <ᵇ spn) refl
    where
      go : (beyond : Bool) → (MAX_SPN <ᵇ spn) ≡ beyond → Unlike P
      go true e = absurd (false≢true (rw e at w))
      go false e =
          let few : spn ≤ 524287 = ltb-false MAX_SPN spn e in
          let c : Carries P spn i k = record { pgn = a; field = b; carries = u; at_most = few } in
          let f = first_of spn i k c in
          unlike_at spn i k f.i f.k c (first_carries spn f few)
          (sym (found_at spn i k f c) ∙ ap (λ (o : Option ℕ). has_cause 42 3 (spn_at j1939 i k o)) u ∙ w)

  pub met_unlike : has_cause 42 3 (check_spns P) ≡ true → Unlike P
  unfolding check_scalings
  met_unlike e =
      let i = met_below 42 3 (λ i. check_scalings j1939 i (pgn_at P 1 i)) (length j1939) (sym by_scalings ∙ e) in
      let fields = length (pgn_at P 1 i.index).fields in
      let k = met_below 42 3 (λ k. spn_at j1939 i.index k (at_field i.index k).spn) fields i.has in
      by_field i.index k.index i.below k.below (at_field i.index k.index).spn refl k.has

  -- ---- "A lone NaN field stays silent": a field whose SPN no other carries, whatever its scaling and whatever the others are

  abbrev pub Lone : (spn i k : ℕ) → Type 0
  Lone spn i k = (j h : ℕ) → Carries P spn j h → (i ≡ j) × (k ≡ h)

  pub lone_silent : (spn i k : ℕ) → Carries P spn i k → Lone spn i k → has_cause 42 3 (spn_at j1939 i k (Some spn)) ≡ false
  lone_silent spn i k c lone =
      let f = first_of spn i k c in
      let e = lone f.i f.k (first_carries spn f c.at_most) in
      ap (λ (o : Option ℕ). has_cause 42 3 (spn_at j1939 i k o)) (sym c.carries) ∙ found_at spn i k f c
      ∙ (rw (both (eq-eqb f.i i (sym e.0)) (eq-eqb f.k k (sym e.1))))

-- not both
pub unlike_not_all : (P : Pack) → Unlike P → AllAlike P → ⊥
unlike_not_all P u all = u.unlike (all u.spn u.i u.k u.j u.h u.here u.there u.different)

-- a finding of R42 that `check` reports is one of R42's own
pub by_rule : (P : Pack) (cause : ℕ) → has_cause 42 cause (check P) ≡ has_cause 42 cause (check_spns P)
by_rule P cause = cause_only 42 cause (check P) ∙ ap (has_cause 42 cause) (only_spns P)

silent_rule : (P : Pack) → has_cause 42 3 (check_spns P) ≡ false ↔ AllAlike P
silent_rule P = (silent_alike P, λ all. go all (has_cause 42 3 (check_spns P)) refl)
  where
    go : AllAlike P → (b : Bool) → has_cause 42 3 (check_spns P) ≡ b → has_cause 42 3 (check_spns P) ≡ false
    go all true e = absurd (unlike_not_all P (met_unlike P e) all)
    go all false e = e

-- WHAT A SILENT R42 SAYS
pub silent_42 : (P : Pack) → Silent42 P
silent_42 P =
    let r = silent_rule P in
    record { of_rule = r; of_check = (λ e. r.0 (sym (by_rule P 3) ∙ e), λ all. by_rule P 3 ∙ r.1 all) }
