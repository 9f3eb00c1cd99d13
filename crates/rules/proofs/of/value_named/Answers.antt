use Rattle.pack.specs.Items.{bytes_of}
use Rattle.pack.specs.Meaning.{pack_of}
use Rattle.pack.specs.Value.{Entry, lookup_at}
use Rattle.rules.specs.Model.{value_named}
use Rattle.rules.specs.SearchLaws.{first_hit}
use native.Mathlib.Omega.{arith}
use mathlib.Core.Bool.{true}
use mathlib.Core.Path.{◌≡◌, ap}
use lib.ListN.{length}
use Rattle.rules.proofs.of.value_named.Invariants.{named}
use Rattle.rules.proofs.of.value_named.Goals as goal

pub returns-then-same_text : goal.returns-then-same_text
unfolding value_named
returns-then-same_text c =
    let s = c.args.s.now in
    let l = c.args.lookup.item in
    let name = bytes_of s c.args.name in
    let h : named s l name c.loop-e.e ≡ true =
    rw (← ap (λ (E : Entry). E.name) c.entry_of-entry.ensures, ← c.same_text.ensures) c.if-same_text.true in
    rw (
      first_hit (named s l name) (length (lookup_at (pack_of s).lookups l).entries) c.loop-e.e (omega (arith, c.loop-e-test.true, c.requires.is.entries))
          c.loop-e.invariant h,
      ← c.entry_of-entry.ensures,
    )
