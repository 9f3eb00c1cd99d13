use Rattle.std.specs.Prelude.{◌==◌}
use Rattle.walk.specs.Stops.{names_missing, entries_name_missing}
use Rattle.rules.specs.SearchLaws.{any_hit}
use Rattle.pack.specs.Loaded.{lookup_value}
use Rattle.pack.specs.Meaning.{entry_meaning, pack_of}
use Rattle.pack.specs.declared.entry.EntryView.{EntryView}
use native.Mathlib.Omega.{arith}
use Prim.Native.Nat.{ℕ}
use mathlib.Core.Path.{◌≡◌, sym, ◌∙◌}
use mathlib.Core.Bool.{Bool, ◌&&◌}
use mathlib.Core.List.{List}
use lib.ListN.{length, get_or}
use Rattle.pack.specs.Value.{no_entry, lookup_at}
use Rattle.walk.proofs.stops.entries_name_missing.Invariants.{hits}
use Rattle.walk.proofs.stops.entries_name_missing.Goals as goal

said : (s : List ℕ) (l reading e : ℕ) (v : EntryView) (r : Bool) → entry_meaning s v ≡ get_or (lookup_at (pack_of s).lookups l).entries e no_entry
    → r ≡ ((v.value == reading) && names_missing (pack_of s) (entry_meaning s v)) → hits s l reading e ≡ r
said s l reading e v r y h = sym (h ∙ (λ j. ((y j).value == reading) && names_missing (pack_of s) (y j)))

pub returns-then-entry_names_missing : goal.returns-then-entry_names_missing
unfolding entries_name_missing
returns-then-entry_names_missing c =
    let s = c.args.lookup.now.pack.bytes.now in let l = c.args.lookup.now.item in let reading = c.args.reading in
    let h =
    said s l reading c.loop-e.e c.entry-entry.result c.entry_names_missing.result c.entry-entry.ensures c.entry_names_missing.ensures in
    sym (any_hit (hits s l reading) (length (lookup_value c.args.lookup.now).entries) c.loop-e.e (omega (
      arith,
      c.args.lookup.now.is.entries,
      c.loop-e-test.true,
    ))
    (h ∙ c.if-entry_names_missing.true))

pub returns : goal.returns
unfolding entries_name_missing
returns c =
    let q : length (lookup_value c.args.lookup.now).entries ≡ c.loop-e.e = omega (arith, c.args.lookup.now.is.entries) in
    rw (q, c.loop-e.invariant.none_yet)
