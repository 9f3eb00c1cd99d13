-- Flags written one after the other.
use Rattle.listing.specs.Words.{flag_words, set_flags}
use Rattle.std.proofs.KnownBytes.{Appends-nil, Appends-trans}
use Rattle.std.proofs.lemmas.List.{flat_map_more, take_more}
use Rattle.std.specs.Borrow.{Bor}
use Rattle.std.specs.Io.KnownBytes.{Appends}
use Rattle.std.specs.Prelude.{◌≡◌, ℕ, ◌+◌, ◌<◌, Bool, true, false, Option, List, [], ◌++◌, length, take, get_or, codes}
use mathlib.Core.Path.{sym, ap, ◌∙◌, subst}

module _ (a b c : Option (List ℕ)) (fs : List (Bool × Bor (List ℕ))) (i : ℕ) (none : Bool × Bor (List ℕ)) (within : i < length fs) where
  one_more : (bs : List ℕ) → Appends a b (set_flags (take i fs)) → Appends b c bs → flag_words (get_or fs i none) ≡ bs
      → Appends a c (set_flags (take (i + 1) fs))
  one_more bs before now is =
      let words : set_flags (take i fs) ++ bs ≡ set_flags (take (i + 1) fs) =
      ap (λ w. set_flags (take i fs) ++ w) (sym is) ∙ flat_map_more flag_words [] (take i fs) (get_or fs i none)
      ∙ sym (ap set_flags (take_more fs i none within)) in
      subst (Appends a c) words (Appends-trans a b c _ bs before now)

  -- a flag that is set
  pub is_set : (get_or fs i none).0 ≡ true → Appends a b (set_flags (take i fs)) → Appends b c (codes ", " ++ (get_or fs i none).1.now)
      → Appends a c (set_flags (take (i + 1) fs))
  is_set h before now = one_more _ before now (rw h)

  -- one that is not
  pub not_set : (get_or fs i none).0 ≡ false → Appends a b (set_flags (take i fs)) → b ≡ c → Appends a c (set_flags (take (i + 1) fs))
  not_set h before same = one_more [] before (subst (λ o. Appends b o []) same (Appends-nil b)) (rw h)
