use Rattle.pack.specs.Items.{fresh}
use Rattle.pack.specs.Format.{lookups, lookup_offsets}
use Rattle.pack.proofs.Places.{Along}
use mathlib.Core.Path.{◌≡◌}
use Rattle.pack.proofs.load.place_lookups.Given as goal

abbrev pub invariant-loop-i : goal.invariant-loop-i
invariant-loop-i l =
    record {
      along : Along l.initial.next l.initial.offsets (lookups l.initial.next.bytes.now (fresh l.initial.next.at) l._i).next
          (lookup_offsets l.initial.next.bytes.now (fresh l.initial.next.at) l._i) l.next l.offsets;
      before : l.before ≡ (lookups l.initial.next.bytes.now (fresh l.initial.next.at) l._i).before;
    }
