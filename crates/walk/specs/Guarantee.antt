-- THE GUARANTEE AGAINST STOPS: a check without one error, then a walk over a held PGN of that pack.
use Rattle.std.specs.Prelude.{ℕ, ◌≤◌, ◌<◌, ◌≡◌, true, List, length}
use Rattle.pack.specs.Value.{Pgn, Pack, pgns_of, pgn_at, lookup_at}
use Rattle.rules.specs.Findings.{without_error}
use Rattle.rules.specs.Check.{check}
use Rattle.rules.specs.Clean.{Clean}
use Rattle.rules.specs.LookupWiring.{check_lookup_refs, check_nested_refs}
use Rattle.rules.specs.Repeating.{check_repeating}
use Rattle.rules.specs.MatchValues.{check_match_values}
use Rattle.rules.specs.BitLengthField.{check_bit_length_field}
use Rattle.rules.specs.Continues.{check_continues}
use Rattle.rules.specs.TrailingZero.{check_trailing_zero_is_digit}
use Rattle.walk.specs.Walk.{whole, used_up, Answer, walk}
use Rattle.walk.specs.Held.{held}

-- An answer to n readings that is no stop: "whole" with at most as many visits, or "used up" with exactly as many.
pub data Unstopped (a : Answer) (n : ℕ) : Type 0 where
  ends_whole : a.ends ≡ whole → length a.visits ≤ n → Unstopped a n
  ends_used_up : a.ends ≡ used_up → length a.visits ≡ n → Unstopped a n

-- Of every pack P, its PGN i of tree t, and "any list of readings, the empty one too".
abbrev pub Guarantee : Type 0
Guarantee = (P : Pack) (t i : ℕ) → t < 3 → i < length (pgns_of P t) → without_error (check P) ≡ true → held P (pgn_at P t i) ≡ true
    → (readings : List ℕ) → Unstopped (walk P (pgn_at P t i) readings) (length readings)

-- What of the check it rests on, for the PGN p: six rules, each with the stops that it shuts out. (Stop 8 is shut out by what is held.)
pub record Quiet (P : Pack) (t i : ℕ) (p : Pgn) : Type 0 where
  -- R05: 1 and 2
  pub repeating : Clean (check_repeating t i p)
  -- R08, of the PGN: 3; of the lookups: 5
  pub lookup_refs : Clean (check_lookup_refs P.lookups t i p)
  pub nested_refs : (l : ℕ) → l < length P.lookups → Clean (check_nested_refs P l (lookup_at P.lookups l))
  -- R13: 4
  pub match_values : Clean (check_match_values P.lookups t i p)
  -- R15: 6
  pub bit_length_field : Clean (check_bit_length_field t i p)
  -- R43: 7
  pub continues : Clean (check_continues P.fieldtypes t i p)
  -- R44: 9
  pub trailing_zero : Clean (check_trailing_zero_is_digit P.fieldtypes t i p)
