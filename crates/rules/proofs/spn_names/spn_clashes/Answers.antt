use Rattle.rules.proofs.Emits.{reporting_turn}
use Rattle.rules.proofs.SpnLaws.{least_named}
use Rattle.rules.specs.SpnNames.{clash_of, least_spn, check_spn_names}
use Rattle.rules.specs.SearchLaws.{ranked_turn, ranked_ends, concat_ends}
use Rattle.rules.specs.Search.{next_rank, ranked}
use native.Mathlib.Omega.{arith}
use Prim.Native.Nat.{ℕ, ◌+◌, ◌-◌, ◌≤◌}
use mathlib.Core.Path.{◌≡◌, sym, ◌∙◌, ap}
use mathlib.Core.List.{List}
use Rattle.std.specs.Prelude.{None}
use Rattle.pack.specs.Notation.{concat_below}
use Rattle.pack.specs.Meaning.{pack_of}
use Rattle.pack.specs.Value.{Pgn}
use Rattle.rules.proofs.spn_names.spn_clashes.Invariants.{of_rank}
use Rattle.rules.proofs.spn_names.spn_clashes.Goals as goal

-- after the last SPN nothing follows
ended : (pgns : List Pgn) (r n : ℕ) → r ≤ n → ranked (least_spn pgns) r ≡ None → concat_below (of_rank pgns) n ≡ concat_below (of_rank pgns) r
ended pgns r n h e =
    let q : n ≡ r + (n - r) = omega arith in
    ap (concat_below (of_rank pgns)) q ∙ concat_ends (of_rank pgns) r (n - r) (λ k. ap (clash_of pgns) (ranked_ends (least_spn pgns) r k e))

pub returns-in_default : goal.returns-in_default
unfolding check_spn_names
returns-in_default c =
    let e = c.loop-rank.invariant.ranked ∙ sym c.in_default.ensures in
    rw (
      ← c.field_total-total.ensures,
      ended (pack_of c.args.pack.now.bytes.now).pgns_j1939 c.loop-rank.rank c.field_total-total.result
          c.loop-rank.invariant.reporting.turns e,
    ) c.loop-rank.invariant.reporting.emitted

pub clash_of-requires : goal.clash_of-requires
clash_of-requires c = least_named (pack_of c.args.pack.now.bytes.now).pgns_j1939 c.loop-rank.b c.in-Some.spn (sym c.in-Some.ensures)

pub loop-rank-preserved : goal.loop-rank-preserved
loop-rank-preserved c =
    let least = least_spn (pack_of c.args.pack.now.bytes.now).pgns_j1939 in
    let e = c.loop-rank.invariant.ranked ∙ sym c.in-Some.ensures in
    record {
      reporting = reporting_turn c.loop-rank.invariant.reporting c.loop-rank-test.true (rw e c.clash_of.ensures);
      ranked = ranked_turn least c.loop-rank.rank ∙ ap (next_rank least) e;
    }
