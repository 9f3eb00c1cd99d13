use Rattle.std.specs.Prelude.{is_some, None}
use mathlib.Core.Bool.{Bool}
use Rattle.pack.specs.Loaded.{pgn_value}
use Rattle.pack.specs.Meaning.{pack_of}
use Rattle.pack.specs.Value.{Pgn, no_pgn, field_at}
use Rattle.rules.specs.Search.{first_below}
use Rattle.rules.specs.SpnNames.{spn_field, is_number}
use Prim.Native.Nat.{ℕ}
use mathlib.Core.Path.{◌≡◌}
use mathlib.Core.List.{List}
use lib.ListN.{get_or}
use Rattle.rules.proofs.PgnSearches.{Searched}
use Rattle.rules.proofs.spns.first_seen.Given as goal

-- whether a field of PGN j carries the SPN
abbrev pub carried : List Pgn → ℕ → ℕ → Bool
carried pgns spn j = is_some (spn_field (get_or pgns j no_pgn) spn)

-- whether field k carries it
abbrev pub carries : Pgn → ℕ → ℕ → Bool
carries p spn k = is_number (field_at p k).spn spn

abbrev pub invariant-search : goal.invariant-search
invariant-search l = record {
  none_yet : Searched l.pack.bytes.now l.pack.work.now 1 (λ n. first_below (carried (pack_of l.pack.bytes.now).pgns_j1939 l.spn) n ≡ None) l.yielded
      l.pgn-iterator;
  seen : l.seen ≡ None;
}

abbrev pub invariant-loop-field : goal.invariant-loop-field
invariant-loop-field l = record {
  none_yet : first_below (carries (pgn_value l.pgn) l.spn) l.field ≡ None;
  seen : l.seen ≡ None;
}
