use Rattle.pack.specs.Items.{bytes_of}
use Rattle.pack.specs.Meaning.{pack_of}
use Rattle.pack.specs.Notation.{◌≐◌}
use Rattle.pack.proofs.Turns.{LookupsGiven}
use lib.ListN.{length}
use Rattle.rules.proofs.Marking.{MarkedTo}
use Rattle.rules.proofs.lookup_marks.mark.Given as goal

abbrev pub invariant-loop-lookup : goal.invariant-loop-lookup
invariant-loop-lookup l =
    let s = l.pack.bytes.now in
    record {
      given : LookupsGiven s l.pack.work.now (length (pack_of s).lookups) (length l.yielded) l.lookup-iterator;
      marked : MarkedTo (pack_of s) (length l.yielded) l.initial.marks (λ n. bytes_of s l.name ≐ n) l.marks;
    }
