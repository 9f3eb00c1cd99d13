use Rattle.pack.specs.Items.{fresh}
use Rattle.pack.specs.Format.{fields, field_offsets}
use Rattle.pack.proofs.Places.{Along}
use mathlib.Core.Path.{◌≡◌}
use Rattle.pack.proofs.load.place_fields.Given as goal

abbrev pub invariant-loop-i : goal.invariant-loop-i
invariant-loop-i l =
    record {
      along : Along l.initial.next l.initial.offsets (fields l.types l.initial.next.bytes.now (fresh l.initial.next.at) l._i).next
          (field_offsets l.types l.initial.next.bytes.now (fresh l.initial.next.at) l._i) l.next l.offsets;
      total : l.total ≡ (fields l.types l.initial.next.bytes.now (fresh l.initial.next.at) l._i).total;
    }
