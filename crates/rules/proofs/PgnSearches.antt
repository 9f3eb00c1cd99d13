-- Loops over a tree's PGNs that search: what holds of those given so far.
use Prim.Native.Nat.{ℕ, ◌+◌}
use mathlib.Core.Bool.{Bool, true, false}
use mathlib.Core.Path.{◌≡◌}
use mathlib.Core.List.{List, [], ◌∷◌, ◌++◌}
use lib.ListN.{length, length-append}
use Rattle.pack.specs.Loaded.{pgn_spot, pgns_left}
use Rattle.pack.specs.Meaning.{pack_of}
use Rattle.pack.specs.Value.{pgns_of}
use Rattle.pack.specs.declared.loaded.Pgns.{Pgns}
use Rattle.pack.specs.declared.loaded.PgnRef.{PgnRef}
use Rattle.rules.specs.Search.{any_below}
use Rattle.rules.specs.SearchLaws.{any_turn, any_hit}
use Rattle.pack.proofs.Turns.{PgnTurn, PgnsGiven, pgns_turn, pgns_given}

pub one_more : {A : Type 0} (ys : List A) (x : A) → length (ys ++ x ∷ []) ≡ length ys + 1
one_more ys x = length-append ys (x ∷ [])

-- the invariant: the PGNs ys of tree t were given, P holds of so many, and d gives the others
pub record Searched (s w : List ℕ) (t : ℕ) (P : ℕ → Type 0) (ys : List PgnRef) (d : Pgns) : Type 0 where
  pub given : PgnsGiven s w t (length (pgns_of (pack_of s) t)) (length ys) d
  pub holds : P (length ys)

module _ {s w : List ℕ} {t : ℕ} {P : ℕ → Type 0} {ys : List PgnRef} {d : Pgns} where
  pub searched_turn : {Q : ℕ → Type 0} (x : PgnRef) (e : Pgns) → Searched s w t P ys d → pgns_left d ≡ pgn_spot x ∷ pgns_left e
      → (PgnTurn s w t (length ys) (length (pgns_of (pack_of s) t)) x (pgns_left e) → P (length ys) → Q (length ys + 1))
      → Searched s w t Q (ys ++ x ∷ []) e
  searched_turn x e p h own =
      let u = pgns_turn x e p.given h in
      record { given = (rw (one_more ys x) u.1); holds = (rw (one_more ys x) (own u.0 p.holds)) }

  -- which of them the item is
  pub searched_at : (x : PgnRef) (e : Pgns) → Searched s w t P ys d → pgns_left d ≡ pgn_spot x ∷ pgns_left e
      → PgnTurn s w t (length ys) (length (pgns_of (pack_of s) t)) x (pgns_left e)
  searched_at x e p h = let u = pgns_turn x e p.given h in u.0

  -- what ends at an item, and what ends with the last
  pub searched_to : (x : PgnRef) (e : Pgns) → Searched s w t P ys d → pgns_left d ≡ pgn_spot x ∷ pgns_left e → P x.item
  searched_to x e p h = let u = pgns_turn x e p.given h in rw u.0.item p.holds

  pub searched_all : Searched s w t P ys d → pgns_left d ≡ [] → P (length (pgns_of (pack_of s) t))
  searched_all p h = rw (← pgns_given p.given h) p.holds

-- none of those given so far has the property
abbrev pub NoneOfPgns : (s w : List ℕ) (t : ℕ) (p : ℕ → Bool) (ys : List PgnRef) (d : Pgns) → Type 0
NoneOfPgns s w t p ys d = Searched s w t (λ n. any_below p n ≡ false) ys d

module _ {s w : List ℕ} {t : ℕ} {p : ℕ → Bool} {ys : List PgnRef} {d : Pgns} (a : NoneOfPgns s w t p ys d) where
  pub pgn_missed : (x : PgnRef) (e : Pgns) → pgns_left d ≡ pgn_spot x ∷ pgns_left e
      → (PgnTurn s w t (length ys) (length (pgns_of (pack_of s) t)) x (pgns_left e) → p (length ys) ≡ false) → NoneOfPgns s w t p (ys ++ x ∷ []) e
  pgn_missed x e h own = searched_turn x e a h (λ u none. rw (any_turn p (length ys), none) (own u))

  pub pgn_hit : (x : PgnRef) (e : Pgns) → pgns_left d ≡ pgn_spot x ∷ pgns_left e
      → (PgnTurn s w t (length ys) (length (pgns_of (pack_of s) t)) x (pgns_left e) → p (length ys) ≡ true)
      → any_below p (length (pgns_of (pack_of s) t)) ≡ true
  pgn_hit x e h own = let u = searched_at x e a h in any_hit p (length (pgns_of (pack_of s) t)) (length ys) u.inside (own u)

  pub no_pgn : pgns_left d ≡ [] → any_below p (length (pgns_of (pack_of s) t)) ≡ false
  no_pgn h = searched_all a h
