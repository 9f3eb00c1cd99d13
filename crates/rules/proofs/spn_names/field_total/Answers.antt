use Rattle.pack.specs.Meaning.{pack_of}
use Rattle.pack.specs.Ready.{pgn_records_below}
use Rattle.pack.specs.Value.{Pgn}
use Rattle.pack.proofs.Few.{fields_few}
use Rattle.rules.specs.SearchLaws.{sum_turn}
use Rattle.rules.specs.Search.{sum_below}
use Rattle.rules.proofs.PgnSearches.{searched_at, searched_turn, searched_all}
use native.Mathlib.Omega.{arith}
use Prim.Native.Nat.{zero, suc, ℕ, ◌≤◌}
use mathlib.Core.List.{List}
use lib.ListN.{length}
use Rattle.rules.proofs.spn_names.field_total.Invariants.{fields_in}
use Rattle.rules.proofs.spn_names.field_total.Goals as goal

-- fields are records
total_few : (pgns : List Pgn) (i : ℕ) → sum_below (fields_in pgns) i ≤ pgn_records_below pgns i
total_few pgns zero = omega arith
total_few pgns (suc i) = omega (arith, total_few pgns i)

pub overflow_add-total : goal.overflow_add-total
overflow_add-total c =
    let x = c.in-Some.pgn in
    let u = searched_at x c.next.new.self c.loop-pgn.invariant c.in-Some.ensures.steps in
    omega (
      arith,
      rw (u.bytes, u.tree, u.item) at (fields_few x.at),
      rw (u.bytes, u.tree, u.item) at x.at.place,
      rw (u.bytes, u.tree, u.item) at x.is.fields,
      c.loop-pgn.invariant.holds,
      total_few (pack_of c.args.pack.now.bytes.now).pgns_j1939 (length c.loop-pgn.yielded),
    )

pub loop-pgn-preserved : goal.loop-pgn-preserved
loop-pgn-preserved c =
    searched_turn c.in-Some.pgn c.next.new.self c.loop-pgn.invariant c.in-Some.ensures.steps
    (λ u total.
    let fields = rw (u.bytes, u.tree, u.item) at c.in-Some.pgn.is.fields in
    omega (arith, sum_turn (fields_in (pack_of c.args.pack.now.bytes.now).pgns_j1939) (length c.loop-pgn.yielded), fields, total))

pub returns : goal.returns
returns c = searched_all c.loop-pgn.invariant c.in-None.ensures.steps.0
