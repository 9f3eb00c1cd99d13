-- R24 cause 2: no SPN is left out, since there are no more SPNs than fields.
use Prim.Native.Nat.{ℕ, ◌+◌}
use mathlib.Core.List.{List}
use Rattle.std.specs.Prelude.{Option, None, Some}
use mathlib.Core.Path.{◌≡◌, refl}
use lib.ListN.{length, get_or}
use Rattle.pack.specs.Notation.{concat_below}
use Rattle.pack.specs.Value.{Pgn, no_pgn, field_at}
use Rattle.rules.specs.Bound.{fields_of}
use Rattle.rules.specs.Search.{ranked}
use Rattle.rules.specs.SpnNames.{clash_of, spn_from, least_spn_in, least_spn, check_spn_names}
use Rattle.rules.proofs.Ranks.{Enumerates, Among, from, of_ones, of_all, ranks_enumerate, ranks_enough}

module _ (pgns : List Pgn) where
  -- field k of PGN i carries the SPN, for a k; and for an i
  abbrev pub carried_in : (i spn : ℕ) → Type 0
  carried_in i = Among (λ k spn. (field_at (get_or pgns i no_pgn) k).spn ≡ Some spn) (length (get_or pgns i no_pgn).fields)

  abbrev pub Carried : (spn : ℕ) → Type 0
  Carried = Among carried_in (length pgns)

  from_same : (b : ℕ) (o : Option ℕ) → spn_from b o ≡ from b o
  from_same b None = refl
  from_same b (Some s) = refl

  -- The ranks below the number of fields give every SPN that a field carries, once and rising; further ranks give none.
  pub spn_ranks : Enumerates (least_spn pgns) Carried (fields_of pgns)
  unfolding least_spn least_spn_in
  spn_ranks =
      ranks_enumerate (least_spn pgns) Carried (fields_of pgns)
      (of_all (least_spn_in pgns) carried_in (λ i. length (get_or pgns i no_pgn).fields)
      (λ i. of_ones (λ b k. spn_from b (field_at (get_or pgns i no_pgn) k).spn) (λ k. (field_at (get_or pgns i no_pgn) k).spn)
      (λ b k. from_same b (field_at (get_or pgns i no_pgn) k).spn) (length (get_or pgns i no_pgn).fields))
      (length pgns))

  -- so the rule over more ranks is the same
  pub spns_enough : (d : ℕ) → concat_below (λ r. clash_of pgns (ranked (least_spn pgns) r)) (fields_of pgns + d) ≡ check_spn_names pgns
  unfolding check_spn_names
  spns_enough d = ranks_enough (least_spn pgns) Carried (fields_of pgns) spn_ranks (clash_of pgns) refl d
