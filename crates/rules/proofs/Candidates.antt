-- The earlier SPN of a name, by candidates: SPNs that a field carries under the name, whether or not it is the field that names them.
-- ---- the largest
use Rattle.std.specs.Bool.{then_some}
use Rattle.std.specs.Prelude.{is_some, if◌then◌else◌, Option, None, Some}
use Prim.Native.Nat.{ℕ, zero, suc, ◌≤◌, ◌<◌}
use native.Mathlib.Decide.{ℕ_discrete}
use native.Mathlib.Omega.{arith}
use mathlib.Core.Bool.{Bool, true, false, ◌&&◌, false≢true}
use mathlib.Core.List.{List}
use Rattle.std.proofs.lemmas.Option.{none-some, same_Some}
use mathlib.Core.Path.{◌≡◌, refl, sym, ap, ◌∙◌}
use lib.ListN.{length, get_or}
use borrow.Author.Tests.{ltb-true, ltb-false, lt-ltb, le-ltb, eqb-true, eq-eqb}
use Rattle.numerals.proofs.Tests.{and_false}
use Rattle.pack.specs.Notation.{◌<ᵇ◌, ◌≐◌}
use Rattle.pack.specs.Value.{Bytes, Pgn, no_pgn, field_at}
use Rattle.rules.specs.Search.{max_below, lower_key, least_below}
use Rattle.rules.specs.SearchLaws.{first_is}
use Rattle.rules.specs.SpnNames.{is_number, spn_field, spn_pgn, name_in, name_by, spn_name, names_spn, earlier_if, earlier_in, earlier_spn}
use Rattle.rules.specs.Namers.{candidate_at, candidate_in, candidate}
use Rattle.rules.proofs.Extremes.{max_is, max_none, max_bounds, optional_is, and_left, and_right}
use Rattle.rules.proofs.SpnLaws.{carried_named}

none_max : (f : ℕ → Option ℕ) (n : ℕ) → ((k : ℕ) → k < n → f k ≡ None) → max_below f n ≡ None
none_max f zero h = refl
none_max f (suc n) h = rw (none_max f n (λ k l. h k (omega arith)), h n (omega arith))

-- all that f gives below n is at most e
abbrev Bounded : (ℕ → Option ℕ) → ℕ → ℕ → Type 0
Bounded f n e = (k x : ℕ) → k < n → f k ≡ Some x → x ≤ e

bounded_max : (f : ℕ → Option ℕ) (n e k : ℕ) → Bounded f n e → k < n → f k ≡ Some e → max_below f n ≡ Some e
bounded_max f n e k b l q = go (max_below f n) refl
  where
    go : (o : Option ℕ) → max_below f n ≡ o → o ≡ Some e
    go None u = absurd (none-some e (sym (max_none f n u k l) ∙ q))
    go (Some a) u =
        let g = max_is f n a u in
        let x : a ≤ e = b g.index a g.below g.is in
        let y : e ≤ a = max_bounds f n a u k e l q in
        let z : a ≡ e = omega arith in
        ap Some z

max_same : (f g : ℕ → Option ℕ) (n : ℕ) → ((k : ℕ) → k < n → f k ≡ g k) → max_below f n ≡ max_below g n
max_same f g zero h = refl
max_same f g (suc n) h = rw (max_same f g n (λ k l. h k (omega arith)), h n (omega arith))

least_is : (key : ℕ → ℕ) (p : ℕ → Bool) (n i : ℕ) → least_below key p n ≡ Some i → (i < n) × (p i ≡ true)
least_is key p zero i h = absurd (none-some i h)
least_is key p (suc n) i h = go (p n) refl (least_below key p n) refl h (least_is key p n)
  where
    go : (b : Bool) → p n ≡ b → (o : Option ℕ) → least_below key p n ≡ o → (if b then Some (lower_key key o n) else o) ≡ Some i
        → ((j : ℕ) → least_below key p n ≡ Some j → (j < n) × (p j ≡ true)) → (i < suc n) × (p i ≡ true)
    go false u o v w rec = let r = rec i (v ∙ w) in (omega (arith, r.0), r.1)
    go true u None v w rec = let q : n ≡ i = same_Some n i w in (omega arith, ap p (sym q) ∙ u)
    go true u (Some m) v w rec = pick (key n <ᵇ key m) (same_Some (if key n <ᵇ key m then n else m) i w)
      where
        pick : (c : Bool) → (if c then n else m) ≡ i → (i < suc n) × (p i ≡ true)
        pick true q = (omega (arith, q), ap p (sym q) ∙ u)
        pick false q = let r = rec m v in (omega (arith, q, r.0), ap p (sym q) ∙ r.1)

-- ---- the field that names an SPN

pub number_is : (o : Option ℕ) (i : ℕ) → is_number o i ≡ true → o ≡ Some i
number_is None i h = absurd (false≢true h)
number_is (Some n) i h = ap Some (eqb-true n i h)

pub names_name : (pgns : List Pgn) (e i k : ℕ) → names_spn pgns e i k ≡ true → spn_name pgns e ≡ (field_at (get_or pgns i no_pgn) k).name
unfolding names_spn spn_name
names_name pgns e i k h =
    let p = get_or pgns i no_pgn in
    let x = number_is (spn_pgn pgns e) i (and_left (is_number (spn_pgn pgns e) i) (is_number (spn_field p e) k) h) in
    let y = number_is (spn_field p e) k (and_right (is_number (spn_pgn pgns e) i) (is_number (spn_field p e) k) h) in
    ap (name_by pgns e) x ∙ ap (name_in pgns p) y

pub record Named (pgns : List Pgn) (e : ℕ) : Type 0 where
  pub pgn : ℕ
  pub field : ℕ
  pub in_tree : pgn < length pgns
  pub in_pgn : field < length (get_or pgns pgn no_pgn).fields
  pub carries : (field_at (get_or pgns pgn no_pgn) field).spn ≡ Some e
  pub names : names_spn pgns e pgn field ≡ true

pub named : (pgns : List Pgn) (e : ℕ) → is_some (spn_pgn pgns e) ≡ true → Named pgns e
unfolding spn_pgn spn_field names_spn
named pgns e h = go (spn_pgn pgns e) refl h
  where
    at : (i : ℕ) → spn_pgn pgns e ≡ Some i → i < length pgns → (o : Option ℕ) → spn_field (get_or pgns i no_pgn) e ≡ o → is_some o ≡ true → Named pgns e
    at i u l None v w = absurd (false≢true w)
    at i u l (Some k) v w =
        let p = get_or pgns i no_pgn in
        let r = first_is (λ k. is_number (field_at p k).spn e) (length p.fields) k v in
        let x : is_number (spn_pgn pgns e) i ≡ true = ap (λ (o : Option ℕ). is_number o i) u ∙ eq-eqb i i refl in
        let y : is_number (spn_field p e) k ≡ true = ap (λ (o : Option ℕ). is_number o k) v ∙ eq-eqb k k refl in
        record {
          pgn = i;
          field = k;
          in_tree = l;
          in_pgn = r.0;
          carries = number_is (field_at p k).spn e r.1;
          names = ap (λ (b : Bool). b && is_number (spn_field p e) k) x ∙ y;
        }

    go : (o : Option ℕ) → spn_pgn pgns e ≡ o → is_some o ≡ true → Named pgns e
    go None u w = absurd (false≢true w)
    go (Some i) u w =
        let r = least_is (λ i. (get_or pgns i no_pgn).pgn) (λ i. is_some (spn_field (get_or pgns i no_pgn) e)) (length pgns) i u in
        at i u r.0 (spn_field (get_or pgns i no_pgn) e) refl r.1

-- ---- candidates

strict : (x e : ℕ) → x ≤ e → (x ≡ e → ⊥) → x < e
strict x e l n = go (ℕ_discrete x e)
  where
    go : Dec (x ≡ e) → x < e
    go (yes q) = absurd (n q)
    go (no q) = omega arith

module _ (pgns : List Pgn) (name : Bytes) where
  -- the SPN of field k of PGN i, if it is below b, of the name, and named there; the largest of a PGN, and of all
  abbrev upto_at : (b i k : ℕ) → Option ℕ → Option ℕ
  upto_at b i k None = None
  upto_at b i k (Some e) = then_some ((e <ᵇ b) && ((field_at (get_or pgns i no_pgn) k).name ≐ name) && names_spn pgns e i k) e

  abbrev upto_in : (b i : ℕ) → Option ℕ
  upto_in b i = max_below (λ k. upto_at b i k (field_at (get_or pgns i no_pgn) k).spn) (length (get_or pgns i no_pgn).fields)

  abbrev pub upto : (b : ℕ) → Option ℕ
  upto b = max_below (upto_in b) (length pgns)

  abbrev cand : (b i k : ℕ) → Option ℕ
  cand b i k = candidate_at name b (field_at (get_or pgns i no_pgn) k).name (field_at (get_or pgns i no_pgn) k).spn

  abbrev up : (b i k : ℕ) → Option ℕ
  up b i k = upto_at b i k (field_at (get_or pgns i no_pgn) k).spn

  -- what is named there is a candidate
  up_cand : (b i k x : ℕ) → up b i k ≡ Some x → cand b i k ≡ Some x
  up_cand b i k x h = go (field_at (get_or pgns i no_pgn) k).spn h
    where
      go : (o : Option ℕ) → upto_at b i k o ≡ Some x → candidate_at name b (field_at (get_or pgns i no_pgn) k).name o ≡ Some x
      go None w = absurd (none-some x w)
      go (Some e) w =
          let t = (e <ᵇ b) && ((field_at (get_or pgns i no_pgn) k).name ≐ name) in
          let q = optional_is (t && names_spn pgns e i k) e x w in
          ap (λ (c : Bool). then_some c e) (and_left t (names_spn pgns e i k) q.0) ∙ ap Some q.1

  cand_spn : (b i k x : ℕ) → cand b i k ≡ Some x → ((field_at (get_or pgns i no_pgn) k).spn ≡ Some x) × (x < b)
  cand_spn b i k x h = go (field_at (get_or pgns i no_pgn) k).spn refl h
    where
      own : Bytes
      own = (field_at (get_or pgns i no_pgn) k).name

      go : (o : Option ℕ) → (field_at (get_or pgns i no_pgn) k).spn ≡ o → candidate_at name b own o ≡ Some x
          → ((field_at (get_or pgns i no_pgn) k).spn ≡ Some x) × (x < b)
      go None u w = absurd (none-some x w)
      go (Some e) u w =
          let q = optional_is ((e <ᵇ b) && (own ≐ name)) e x w in
          let l : e < b = ltb-true e b (and_left (e <ᵇ b) (own ≐ name) q.0) in
          (u ∙ ap Some q.1, omega (arith, l, q.1))

  all_bounded : (b e : ℕ) → candidate pgns name b ≡ Some e → (i k x : ℕ) → i < length pgns → k < length (get_or pgns i no_pgn).fields → cand b i k ≡ Some x
      → x ≤ e
  unfolding candidate candidate_in
  all_bounded b e h i k x l m q = go (candidate_in pgns name b i) refl
    where
      n : ℕ
      n = length (get_or pgns i no_pgn).fields

      go : (o : Option ℕ) → candidate_in pgns name b i ≡ o → x ≤ e
      go None u = absurd (none-some x (sym (max_none (cand b i) n u k m) ∙ q))
      go (Some y) u =
          let r = max_bounds (cand b i) n y u k x m q in
          let t = max_bounds (candidate_in pgns name b) (length pgns) e h i y l u in
          omega (arith, r, t)

  none_up : (b i k : ℕ) → cand b i k ≡ None → up b i k ≡ None
  none_up b i k h = go (up b i k) refl
    where
      go : (o : Option ℕ) → up b i k ≡ o → o ≡ None
      go None u = refl
      go (Some x) u = absurd (none-some x (sym h ∙ up_cand b i k x u))

  pub candidate_none : (b : ℕ) → candidate pgns name b ≡ None → upto b ≡ None
  unfolding candidate candidate_in
  candidate_none b h =
      none_max (upto_in b) (length pgns)
      (λ i l. none_max (up b i) (length (get_or pgns i no_pgn).fields)
      (λ k m. none_up b i k (max_none (cand b i) (length (get_or pgns i no_pgn).fields) (max_none (candidate_in pgns name b) (length pgns) h i l) k m)))

  -- a candidate is below b, and a field carries it
  pub candidate_met : (b e : ℕ) → candidate pgns name b ≡ Some e → (e < b) × (is_some (spn_pgn pgns e) ≡ true)
  unfolding candidate candidate_in
  candidate_met b e h =
      let i = max_is (candidate_in pgns name b) (length pgns) e h in
      let k = max_is (cand b i.index) (length (get_or pgns i.index no_pgn).fields) e i.is in
      let r = cand_spn b i.index k.index e k.is in
      (r.1, carried_named pgns e i.index k.index i.below k.below r.0)

  -- where it has the name, it is the one
  pub candidate_named : (b e : ℕ) → candidate pgns name b ≡ Some e → (spn_name pgns e ≐ name) ≡ true → upto b ≡ Some e
  candidate_named b e h s =
      let met = candidate_met b e h in
      let n = named pgns e met.1 in
      let i = n.pgn in
      let k = n.field in
      let own : ((field_at (get_or pgns i no_pgn) k).name ≐ name) ≡ true = ap (λ (t : Bytes). t ≐ name) (sym (names_name pgns e i k n.names)) ∙ s in
      let hit : up b i k ≡ Some e = ap (upto_at b i k) n.carries ∙ (rw (lt-ltb e b met.0, own, n.names)) in
      let inner : Bounded (up b i) (length (get_or pgns i no_pgn).fields) e = λ k x l q. all_bounded b e h i k x n.in_tree l (up_cand b i k x q) in
      let outer : Bounded (upto_in b) (length pgns) e = λ i x l q.
      (let g = max_is (up b i) (length (get_or pgns i no_pgn).fields) x q in all_bounded b e h i g.index x l g.below (up_cand b i g.index x g.is)) in
      bounded_max (upto_in b) (length pgns) e i outer n.in_tree (bounded_max (up b i) (length (get_or pgns i no_pgn).fields) e k inner n.in_pgn hit)

  -- where it has not, nothing of the name lies between
  pub candidate_other : (b e : ℕ) → candidate pgns name b ≡ Some e → (spn_name pgns e ≐ name) ≡ false → upto b ≡ upto e
  candidate_other b e h s =
      max_same (upto_in b) (upto_in e) (length pgns)
      (λ i l. max_same (up b i) (up e i) (length (get_or pgns i no_pgn).fields) (λ k m. same_at i k l m (field_at (get_or pgns i no_pgn) k).spn refl))
    where
      below : e < b
      below = (candidate_met b e h).0

      same_test : (i k x : ℕ) → i < length pgns → k < length (get_or pgns i no_pgn).fields → (field_at (get_or pgns i no_pgn) k).spn ≡ Some x
          → ((field_at (get_or pgns i no_pgn) k).name ≐ name) ≡ true → names_spn pgns x i k ≡ true → (c : Bool) → (x <ᵇ b) ≡ c → c ≡ (x <ᵇ e)
      same_test i k x l m u q z true t =
          let own = (field_at (get_or pgns i no_pgn) k).name in
          let is : cand b i k ≡ Some x = ap (candidate_at name b own) u ∙ (rw (t, q)) in
          let le : x ≤ e = all_bounded b e h i k x l m is in
          let ne : x ≡ e
          → ⊥ = λ y. false≢true (sym s ∙ ap (λ (n : ℕ). spn_name pgns n ≐ name) (sym y) ∙ ap (λ (n : Bytes). n ≐ name) (names_name pgns x i k z) ∙ q) in
          let lt : x < e = strict x e le ne in
          sym (lt-ltb x e lt)
      same_test i k x l m u q z false t = sym (le-ltb x e (omega (arith, below, ltb-false x b t)))

      same_tests : (i k x : ℕ) → i < length pgns → k < length (get_or pgns i no_pgn).fields → (field_at (get_or pgns i no_pgn) k).spn ≡ Some x
          → (q z : Bool) → ((field_at (get_or pgns i no_pgn) k).name ≐ name) ≡ q → names_spn pgns x i k ≡ z → ((x <ᵇ b) && q && z) ≡ ((x <ᵇ e) && q && z)
      same_tests i k x l m u false z v w = ap (λ (t : Bool). t && z) (and_false (x <ᵇ b) ∙ sym (and_false (x <ᵇ e)))
      same_tests i k x l m u true false v w = and_false ((x <ᵇ b) && true) ∙ sym (and_false ((x <ᵇ e) && true))
      same_tests i k x l m u true true v w = ap (λ (t : Bool). t && true && true) (same_test i k x l m u v w (x <ᵇ b) refl)

      same_at : (i k : ℕ) → i < length pgns → k < length (get_or pgns i no_pgn).fields → (o : Option ℕ) → (field_at (get_or pgns i no_pgn) k).spn ≡ o
          → up b i k ≡ up e i k
      same_at i k l m None u = ap (upto_at b i k) u ∙ sym (ap (upto_at e i k) u)
      same_at i k l m (Some x) u =
          let own = (field_at (get_or pgns i no_pgn) k).name in
          ap (upto_at b i k) u ∙ ap (λ (c : Bool). then_some c x) (same_tests i k x l m u (own ≐ name) (names_spn pgns x i k) refl refl)
          ∙ sym (ap (upto_at e i k) u)

pub upto_earlier : (pgns : List Pgn) (s : ℕ) → earlier_spn pgns s ≡ upto pgns (spn_name pgns s) s
unfolding earlier_spn earlier_in
upto_earlier pgns s =
    max_same (earlier_in pgns s) (upto_in pgns (spn_name pgns s) s) (length pgns)
    (λ i l. max_same (λ k. earlier_if pgns s i k (field_at (get_or pgns i no_pgn) k).spn) (up pgns (spn_name pgns s) s i) (length (get_or pgns i no_pgn).fields)
    (λ k m. go i k (field_at (get_or pgns i no_pgn) k).spn))
  where
    go : (i k : ℕ) (o : Option ℕ) → earlier_if pgns s i k o ≡ upto_at pgns (spn_name pgns s) s i k o
    go i k None = refl
    go i k (Some e) = refl
