use Rattle.pack.specs.Meaning.{pack_of}
use Rattle.pack.specs.Value.{Pgn, no_pgn}
use Rattle.rules.specs.Search.{sum_below}
use Prim.Native.Nat.{ℕ}
use mathlib.Core.Path.{◌≡◌}
use mathlib.Core.List.{List}
use lib.ListN.{length, get_or}
use Rattle.rules.proofs.PgnSearches.{Searched}
use Rattle.rules.proofs.spn_names.field_total.Given as goal

abbrev pub fields_in : List Pgn → ℕ → ℕ
fields_in pgns i = length (get_or pgns i no_pgn).fields

abbrev pub invariant-loop-pgn : goal.invariant-loop-pgn
invariant-loop-pgn l =
    let s = l.pack.bytes.now in
    Searched s l.pack.work.now 1 (λ n. l.total ≡ sum_below (fields_in (pack_of s).pgns_j1939) n) l.yielded l.pgn-iterator
