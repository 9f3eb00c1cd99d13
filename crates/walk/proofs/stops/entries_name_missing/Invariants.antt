use Rattle.std.specs.Prelude.{◌==◌}
use Rattle.walk.specs.Stops.{names_missing}
use Rattle.rules.specs.Search.{any_below}
use Rattle.pack.specs.Meaning.{pack_of}
use Prim.Native.Nat.{ℕ}
use mathlib.Core.Path.{◌≡◌}
use mathlib.Core.Bool.{Bool, false, ◌&&◌}
use mathlib.Core.List.{List}
use lib.ListN.{get_or}
use Rattle.pack.specs.Value.{no_entry, lookup_at}
use Rattle.walk.proofs.stops.entries_name_missing.Given as goal

-- whether entry e of lookup l is for the reading and names something missing
abbrev pub hits : List ℕ → ℕ → ℕ → ℕ → Bool
hits s l reading e =
    ((get_or (lookup_at (pack_of s).lookups l).entries e no_entry).value == reading)
    && names_missing (pack_of s) (get_or (lookup_at (pack_of s).lookups l).entries e no_entry)

abbrev pub invariant-loop-e : goal.invariant-loop-e
invariant-loop-e l =
    record {
      none_yet : any_below (hits l.lookup.pack.bytes.now l.lookup.item l.reading) l.e ≡ false;
    }
