use Rattle.pack.specs.Items.{bytes_of}
use Rattle.pack.specs.Meaning.{pack_of}
use Rattle.pack.specs.Value.{FieldType}
use Rattle.rules.specs.LookupWiring.{is_fieldtype}
use Rattle.rules.specs.SearchLaws.{any_hit}
use native.Mathlib.Omega.{arith}
use mathlib.Core.Bool.{true}
use mathlib.Core.Path.{◌≡◌, ap, sym}
use lib.ListN.{length}
use Rattle.rules.proofs.of.is_fieldtype.Invariants.{named}
use Rattle.rules.proofs.of.is_fieldtype.Goals as goal

pub returns-then-same_text : goal.returns-then-same_text
unfolding is_fieldtype
returns-then-same_text c =
    let s = c.args.s.now in
    let name = bytes_of s c.args.name in
    let h : named s name c.loop-j.j ≡ true =
    rw (← ap (λ (T : FieldType). T.name) c.type_of-v.ensures, ← c.same_text.ensures) c.if-same_text.true in
    sym (any_hit (named s name) (length (pack_of s).fieldtypes) c.loop-j.j (omega (arith, c.loop-j-test.true, c.requires.types)) h)
