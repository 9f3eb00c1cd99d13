-- R08 cause 3 asks whether some value of a lookup is out of reach; the Rust asks it of the largest one, `named_max`. It is the same.
use Rattle.std.specs.Prelude.{ℕ, zero, suc, ◌^◌, ◌≤◌, Bool, true, false, ◌&&◌, ◌||◌, ◌≡◌, refl, length, ◌==◌, if◌then◌else◌}
use Rattle.std.proofs.Common.{arith, sym, ◌∙◌, ltb-true, ltb-false, leb-true, le-leb}
use Rattle.std.proofs.lemmas.Bool.{false≢true}
use Rattle.std.specs.Prelude.{Option, None, Some}
use Rattle.pack.specs.Notation.{◌<ᵇ◌, ◌≤ᵇ◌}
use Rattle.pack.specs.Value.{Lookup, entry_at}
use Rattle.rules.specs.LookupWiring.{beyond_width, unreachable}
use Rattle.rules.specs.Search.{any_below, larger, max_below}

abbrev pub named_max : Lookup → Option ℕ
named_max l = max_below (λ e. Some (entry_at l.entries e).value) (length l.entries)

-- the Rust's `named_max.is_some_and(..)`
abbrev pub is_some_and : Option ℕ → (ℕ → Bool) → Bool
is_some_and None p = false
is_some_and (Some v) p = p v

abbrev Rising : (ℕ → Bool) → Type 0
Rising p = (a b : ℕ) → a ≤ b → p a ≡ true → p b ≡ true

or_largest : (p : ℕ → Bool) → Rising p → (a b : ℕ) → (p a || p b) ≡ p (if a <ᵇ b then b else a)
or_largest p r a b = go (a <ᵇ b) refl (p a) refl (p b) refl
  where
    go : (t : Bool) → (a <ᵇ b) ≡ t → (x : Bool) → p a ≡ x → (y : Bool) → p b ≡ y → (x || y) ≡ p (if t then b else a)
    go true q true u y v = sym (r a b (omega (arith, ltb-true a b q)) u)
    go true q false u y v = sym v
    go false q true u y v = sym u
    go false q false u true v = absurd (false≢true (sym u ∙ r b a (ltb-false a b q) v))
    go false q false u false v = sym u

any_largest : (p : ℕ → Bool) → Rising p → (v : ℕ → ℕ) (n : ℕ) → any_below (λ e. p (v e)) n ≡ is_some_and (max_below (λ e. Some (v e)) n) p
any_largest p r v zero = refl
any_largest p r v (suc n) = go (max_below (λ e. Some (v e)) n) (any_largest p r v n)
  where
    go : (m : Option ℕ) → any_below (λ e. p (v e)) n ≡ is_some_and m p → (any_below (λ e. p (v e)) n || p (v n)) ≡ is_some_and (larger m (Some (v n))) p
    go None e = rw e
    go (Some a) e = rw e (or_largest p r a (v n))

beyond_rises : (kind width : ℕ) → Rising (beyond_width kind width)
unfolding beyond_width
beyond_rises kind width a b h e = go (kind == 2) (width <ᵇ 64) e
  where
    go : (t s : Bool) → (if t then width ≤ᵇ a else s && (2 ^ width ≤ᵇ a)) ≡ true → (if t then width ≤ᵇ b else s && (2 ^ width ≤ᵇ b)) ≡ true
    go true s q = le-leb width b (omega (arith, leb-true width a q))
    go false true q = le-leb (2 ^ width) b (omega (arith, leb-true (2 ^ width) a q))
    go false false q = absurd (false≢true q)

pub unreachable_by_max : (l : Lookup) (width : ℕ) → unreachable l width ≡ is_some_and (named_max l) (beyond_width l.kind width)
unfolding unreachable
unreachable_by_max l width =
    any_largest (beyond_width l.kind width) (beyond_rises l.kind width) (λ e. (entry_at l.entries e).value) (length l.entries)
