-- A set of an accepted pack ends at a number of 32 bits: 7 refuses every other.
use Rattle.pack.specs.Items.{Cursor}
use Prim.Native.Nat.{ℕ, zero, suc, ◌+◌, ◌≤◌, ◌<◌}
use native.Mathlib.Omega.{arith}
use mathlib.Core.Path.{◌≡◌, refl}
use mathlib.Core.List.{List, []}
use mathlib.Core.Bool.{Bool, true, false}
use Rattle.std.specs.Prelude.{Option, None, Some}
use Rattle.pack.specs.Value.{Repeating, pgn_at, set_place}
use Rattle.pack.specs.Items.{◌▷◌, give, optional, largest32, read_number, read_mark}
use Rattle.pack.specs.Records.{read_repeating, read_pgn}
use Rattle.pack.specs.Format.{fields, tree_list, pgn_start}
use Rattle.pack.specs.Meaning.{repeating_meaning, optional_repeating, pgn_meaning, pgn_of_pack, pack_of}
use Rattle.pack.specs.Ready.{PgnAt}
use Rattle.pack.proofs.Reading.{back, number_reader, optional_reader, mark_reader, repeating_reader}
use Rattle.pack.proofs.Free.{sum_fits}
use Rattle.pack.proofs.Clean.{accepted_end, field_clean}
use Rattle.pack.proofs.Values.{pgns_are, pgn_is}

-- the set that is given there ends so
abbrev pub SetFits : Option Repeating → Type 0
SetFits o = (r : Repeating) → o ≡ Some r → r.start + r.count ≤ largest32

module _ (s : List ℕ) where
  set_fits : (c : Cursor) → (read_repeating s c).next.refused ≡ 0 → (read_repeating s c).value.start.0 + (read_repeating s c).value.count ≤ largest32
  unfolding read_repeating ◌▷◌ give
  set_fits c e =
      let n = read_number s c in
      let a = sum_fits s n.next n.value (back (optional_reader s read_number (number_reader s)) _ (back (mark_reader s) _ e)) in
      omega (arith, a)

  opt_set_fits : (c : Cursor) → (optional read_repeating s c).next.refused ≡ 0 → SetFits (optional_repeating (optional read_repeating s c).value)
  unfolding optional ◌▷◌ give
  opt_set_fits c e r h = go (read_mark s c).value refl
    where
      go : (b : Bool) → (read_mark s c).value ≡ b → r.start + r.count ≤ largest32
      go true x =
          let m = repeating_meaning (read_repeating s (read_mark s c).next).value in
          let q : Some m ≡ Some r = rw x at h in
          let y : m ≡ r = cc in
          rw (← y) (set_fits (read_mark s c).next (rw x at e))
      go false x = let q : None ≡ Some r = rw x at h in let u : ◌≡◌ {A = ℕ} 0 1 = cc in absurd (omega arith)

  pgn_sets_fit : (c : Cursor) → (read_pgn s c).next.refused ≡ 0 → (k : ℕ)
      → SetFits (set_place (pgn_meaning s (read_pgn s c).value []) k)
  unfolding read_pgn ◌▷◌ give
  pgn_sets_fit c e zero = opt_set_fits _ (back (optional_reader s read_repeating (repeating_reader s)) _ (back (number_reader s) _ e))
  pgn_sets_fit c e (suc zero) = opt_set_fits _ (back (number_reader s) _ e)
  pgn_sets_fit c e (suc (suc k)) = λ r h. let u : ◌≡◌ {A = ℕ} 0 1 = cc in absurd (omega arith)

module _ {s w : List ℕ} {t i p : ℕ} (a : PgnAt s w t i p) where
  pub pgn_sets_law : (k : ℕ) → SetFits (set_place (pgn_at (pack_of s) t i) k)
  unfolding fields pgn_of_pack
  pgn_sets_law k =
      let l : i < (tree_list s t).value = omega (arith, pgns_are s t a.tree, a.pgn) in
      let e = field_clean s (accepted_end s a.ready.accepted).0 t i 0 a.tree l (omega arith) in
      rw (pgn_is s t i a.tree l) (pgn_sets_fit s (pgn_start s t i) e k)
