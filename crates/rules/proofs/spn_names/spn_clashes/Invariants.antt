use Rattle.rules.specs.Emit.{Reporting}
use Rattle.rules.specs.SpnNames.{clash_of, least_spn}
use Rattle.rules.specs.Search.{ranked}
use Prim.Native.Nat.{ℕ}
use mathlib.Core.Path.{◌≡◌}
use mathlib.Core.List.{List}
use Rattle.pack.specs.Meaning.{pack_of}
use Rattle.pack.specs.Value.{Pgn}
use Rattle.rules.specs.declared.Finding.{Finding}
use Rattle.rules.proofs.spn_names.spn_clashes.Given as goal

-- the findings of an SPN by its rank
abbrev pub of_rank : List Pgn → ℕ → List Finding
of_rank pgns r = clash_of pgns (ranked (least_spn pgns) r)

abbrev pub invariant-loop-rank : goal.invariant-loop-rank
invariant-loop-rank l =
    let pgns = (pack_of l.pack.bytes.now).pgns_j1939 in
    record {
      reporting : Reporting l.initial.out (of_rank pgns) l.total l.rank l.out;
      ranked : ranked (least_spn pgns) l.rank ≡ least_spn pgns l.b;
    }
