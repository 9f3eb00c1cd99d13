use native.Mathlib.Omega.{arith}
use Prim.Native.Nat.{ℕ, ◌+◌}
use mathlib.Core.Path.{◌≡◌, sym, ◌∙◌, ap}
use mathlib.Core.Bool.{Bool}
use lib.ListN.{length}
use Rattle.pack.specs.Items.{bytes_of}
use Rattle.pack.specs.Loaded.{tree_of, pgn_value}
use Rattle.pack.specs.Meaning.{pack_of, field_meaning}
use Rattle.pack.specs.Value.{Field, pgns_of, field_at}
use Rattle.pack.specs.declared.field.FieldView.{FieldView}
use Rattle.pack.specs.declared.loaded.PgnRef.{PgnRef}
use Rattle.rules.specs.SearchLaws.{any_hit}
use Rattle.rules.specs.SpnClashes.{other_among, clash_from}
use Rattle.rules.proofs.spn_clashes.clash_from.Invariants.{hit}
use Rattle.rules.proofs.spn_clashes.clash_from.Goals as goal

said : (g : PgnRef) (k : ℕ) (v : FieldView) (r : Bool) → field_meaning g.pack.bytes.now v ≡ field_at (pgn_value g) k
    → r ≡ other_among (pgns_of (pack_of g.pack.bytes.now) (tree_of g)) (g.item + 1) (bytes_of g.pack.bytes.now v.names.name) v.authored.spn
    → hit g k ≡ r
said g k v r y e = sym (e ∙ ap (λ (f : Field). other_among (pgns_of (pack_of g.pack.bytes.now) (tree_of g)) (g.item + 1) f.name f.spn) y)

pub returns-then-other_among : goal.returns-then-other_among
unfolding clash_from
returns-then-other_among c =
    let g = c.args.pgn.now in
    sym (any_hit (hit g) (length (pgn_value g).fields) c.loop-k.k (omega (arith, g.is.fields, c.loop-k-test.true))
    (said g c.loop-k.k c.field-f.result c.other_among.result c.field-f.ensures c.other_among.ensures ∙ c.if-other_among.true))
