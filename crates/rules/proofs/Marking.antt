-- Marks at lookups: nothing marked, one turn after the other, and what the marks are in the end.
use Rattle.std.specs.Prelude.{◌==◌}
use Prim.Native.Nat.{ℕ, zero, suc, ◌+◌, ◌≤◌, ◌<◌}
use native.Mathlib.Decide.{ℕ_discrete}
use native.Mathlib.Omega.{arith}
use mathlib.Core.Path.{◌≡◌, refl, sym, ap, ◌∙◌}
use mathlib.Core.Bool.{Bool, true, false, ◌||◌}
use mathlib.Core.List.{List, ◌++◌}
use lib.ListN.{length, get_or, replicate, length-replicate}
use lib.Seq.{get_or-set_same, get_or-set_other}
use Rattle.std.proofs.Common.{length-set}
use Rattle.pack.specs.Notation.{concat_below}
use Rattle.pack.specs.Value.{Bytes, Lookup, Pack, no_entry, lookup_at}
use Rattle.rules.specs.LookupWiring.{referenced_by_lookup}
use Rattle.rules.specs.Marks.{Clear, marked_at, Marked}
use Rattle.rules.specs.Model.{is_text, fieldtypes}
use Rattle.rules.specs.Search.{any_below}
use Rattle.rules.specs.SearchLaws.{any_turn}

or_none : (a : Bool) → a ≡ (a || false)
or_none true = refl
or_none false = refl

or_regroup : (a b d : Bool) → (a || b || d) ≡ (a || (b || d))
or_regroup true b d = refl
or_regroup false b d = refl

-- ---- clear marks

pub clear_replicate : (n : ℕ) → Clear (replicate n false)
clear_replicate n = record { none_set = go n }
  where
    go : (n l : ℕ) → get_or (replicate n false) l false ≡ false
    go zero l = refl
    go (suc n) zero = refl
    go (suc n) (suc l) = go n l

pub room_replicate : (n k : ℕ) → k ≤ n → k ≤ length (replicate n false)
room_replicate n k h = omega (arith, length-replicate n false)

-- ---- marking

pub marked_none : (P : Pack) (m : List Bool) → Marked P m (λ n. false) m
marked_none P m = record { room = refl; marks = λ l h k. or_none (get_or m l false) }

pub marked_as : {P : Pack} {m m' : List Bool} (q r : Bytes → Bool) → ((n : Bytes) → q n ≡ r n) → Marked P m q m' → Marked P m r m'
marked_as {P} {m} q r e a =
    record { room = a.room; marks = λ l h k. a.marks l h k ∙ ap (λ (b : Bool). get_or m l false || b) (e (lookup_at P.lookups l).name) }

pub marked_then : {P : Pack} {m m' m'' : List Bool} (q r : Bytes → Bool) → Marked P m q m' → Marked P m' r m'' → Marked P m (λ n. q n || r n) m''
marked_then {P} {m} q r a b =
    record {
      room = b.room ∙ a.room;
      marks = λ l h k. b.marks l h (omega (arith, k, a.room)) ∙ ap (λ (d : Bool). d || r (lookup_at P.lookups l).name) (a.marks l h k)
          ∙ or_regroup (get_or m l false) (q (lookup_at P.lookups l).name) (r (lookup_at P.lookups l).name);
    }

pub marked_turn : {P : Pack} {m m' m'' : List Bool} (f : Bytes → ℕ → Bool) (k : ℕ) → Marked P m (λ n. any_below (f n) k) m' → Marked P m' (λ n. f n k) m''
    → Marked P m (λ n. any_below (f n) (k + 1)) m''
marked_turn f k a b = marked_as (λ n. any_below (f n) k || f n k) (λ n. any_below (f n) (k + 1)) (λ n. sym (any_turn (f n) k))
    (marked_then (λ n. any_below (f n) k) (λ n. f n k) a b)

-- ---- the lookups one after the other

-- those below l are done, the others as they were
pub record MarkedTo (P : Pack) (l : ℕ) (m : List Bool) (q : Bytes → Bool) (m' : List Bool) : Type 0 where
  pub room : length m' ≡ length m
  pub below : (j : ℕ) → j < l → j < length m → get_or m' j false ≡ (get_or m j false || q (lookup_at P.lookups j).name)
  pub above : (j : ℕ) → l ≤ j → get_or m' j false ≡ get_or m j false

pub marked_next : {P : Pack} {l : ℕ} {m m' m'' : List Bool} {q : Bytes → Bool} (b : Bool) → MarkedTo P l m q m'
    → b ≡ q (lookup_at P.lookups l).name → m'' ≡ marked_at m' l b → MarkedTo P (l + 1) m q m''
unfolding marked_at
marked_next {P} {l} {m} {m'} {m''} {q} b a e w =
    record {
      room = ap (λ (x : List Bool). length x) w ∙ length-set m' l (get_or m' l false || b) ∙ a.room;
      below = λ j k r. low j (ℕ_discrete j l) k r;
      above = λ j k. ap (λ (x : List Bool). get_or x j false) w ∙ get_or-set_other m' l j (get_or m' l false || b) false (λ d. absurd (omega arith))
          ∙ a.above j (omega arith);
    }
  where
    low : (j : ℕ) → Dec (j ≡ l) → j < l + 1 → j < length m → get_or m'' j false ≡ (get_or m j false || q (lookup_at P.lookups j).name)
    low j (yes d) k r =
        ap (λ (x : ℕ). get_or m'' x false) d
        ∙ ap (λ (x : List Bool). get_or x l false) w
        ∙ get_or-set_same m' l (get_or m' l false || b) false (omega (arith, d, r, a.room))
        ∙ (λ i. a.above l (omega arith) i || e i)
        ∙ ap (λ (x : ℕ). get_or m x false || q (lookup_at P.lookups x).name) (sym d)
    low j (no d) k r =
        ap (λ (x : List Bool). get_or x j false) w ∙ get_or-set_other m' l j (get_or m' l false || b) false d ∙ a.below j (omega arith) r

pub marked_all : {P : Pack} {l : ℕ} {m m' : List Bool} {q : Bytes → Bool} → length P.lookups ≡ l → MarkedTo P l m q m' → Marked P m q m'
marked_all e a = record { room = a.room; marks = λ j h k. a.below j (omega arith) k }

-- ---- in the end

pub marks_are : {P : Pack} {m m' : List Bool} (q : Bytes → Bool) → length P.lookups ≤ length m → Clear m → Marked P m q m' → (l : ℕ)
    → l < length P.lookups → get_or m' l false ≡ q (lookup_at P.lookups l).name
marks_are {P} q r z a l h = a.marks l h (omega arith) ∙ ap (λ (b : Bool). b || q (lookup_at P.lookups l).name) (z.none_set l)

pub concat_same : {A : Type 0} (f g : ℕ → List A) (n : ℕ) → ((k : ℕ) → k < n → f k ≡ g k) → concat_below f n ≡ concat_below g n
concat_same f g zero h = refl
concat_same f g (suc n) h = let e = concat_same f g n (λ k l. h k (omega arith)) in let d = h n (omega arith) in λ j. e j ++ d j

-- ---- what the entries of a lookup nest

module _ (name : List ℕ) (L : Lookup) where
  pub not_nesting : (L.kind == 3) ≡ false → referenced_by_lookup name L ≡ false
  unfolding referenced_by_lookup fieldtypes
  not_nesting e = rw e

  pub nesting : (L.kind == 3) ≡ true → referenced_by_lookup name L ≡ any_below (λ e. is_text (get_or L.entries e no_entry).nested name) (length L.entries)
  unfolding referenced_by_lookup fieldtypes
  nesting e = rw e
