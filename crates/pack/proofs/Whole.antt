-- The sections of a pack put together: what one walk over it reaches, counts and stores, and where one that is refused leaves the whole.
use Rattle.pack.specs.Items.{Cursor}
use Prim.Native.Nat.{ℕ, zero, suc, ◌+◌, ◌-◌, ◌≤◌}
use native.Mathlib.Omega.{arith}
use native.Mathlib.Decide.{ℕ_discrete}
use mathlib.Core.Path.{◌≡◌, ◌∙◌}
use mathlib.Core.List.{List}
use borrow.Author.Tests.{ne_eqb}
use Rattle.pack.specs.Items.{fresh, read_number, read_version, finish}
use Rattle.pack.specs.Format.{types, pgns, type_list, lookup_list, tree_start}
use Rattle.pack.specs.Format.{pack_end}
use Rattle.pack.proofs.Reading.{Reader, followed, number_reader, types_reader, lookups_reader, pgns_reader}

-- the end is refused where what stands before it is
pub finish_back : (s : List ℕ) (c : Cursor) → (finish s c).refused ≡ 0 → c.refused ≡ 0
unfolding finish
finish_back s c e = go (ℕ_discrete c.refused 0)
  where
    go : Dec (c.refused ≡ 0) → c.refused ≡ 0
    go (yes z) = z
    go (no n) = rw (ne_eqb _ _ n) at e

module _ (s : List ℕ) where
  -- from one section to the next
  pub tree_reader : (k : ℕ) → Reader s (λ c. pgns k s (read_number s c).next (read_number s c).value)
  tree_reader k = followed (number_reader s) (λ c. pgns_reader s k (read_number s c).value)

  -- the pack ends there if it is refused there
  abbrev pub Ending : Cursor → Type 0
  Ending c = (c.refused ≡ 0 → ⊥) → pack_end s ≡ c

  ends_before : {c d : Cursor} → Ending d → ((c.refused ≡ 0 → ⊥) → d ≡ c) → Ending c
  ends_before f g n = let e = g n in f (λ z. n (rw (← e) z)) ∙ e

  tree_from : (d t : ℕ) → d + t ≡ 3 → Ending (tree_start s t)
  unfolding tree_start pack_end finish
  tree_from zero t e = let z : t ≡ 3 = omega arith in rw z (λ n. rw (ne_eqb _ _ n))
  tree_from (suc d) t e = ends_before (tree_from d (suc t) (omega arith)) ((tree_reader (type_list s).value).sticky (tree_start s t))

  pub tree_ends : (t : ℕ) → t ≤ 3 → Ending (tree_start s t)
  tree_ends t h = tree_from (3 - t) t (omega arith)

  pub lookup_list_ends : Ending (lookup_list s).next
  unfolding tree_start
  lookup_list_ends = ends_before (tree_ends 0 (omega arith)) ((lookups_reader s (lookup_list s).value).sticky (lookup_list s).next)

  pub types_ends : Ending (types s (type_list s).next (type_list s).value)
  unfolding lookup_list
  types_ends = ends_before lookup_list_ends ((number_reader s).sticky (types s (type_list s).next (type_list s).value))

  pub type_list_ends : Ending (type_list s).next
  type_list_ends = ends_before types_ends ((types_reader s (type_list s).value).sticky (type_list s).next)

  pub version_ends : Ending (read_version s (fresh 0)).next
  unfolding type_list
  version_ends = ends_before type_list_ends ((number_reader s).sticky (read_version s (fresh 0)).next)
