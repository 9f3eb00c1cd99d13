use Rattle.pack.specs.Items.{bytes_of}
use Rattle.pack.specs.Loaded.{pgn_value}
use Rattle.pack.specs.Value.{Field}
use Rattle.rules.specs.LookupWiring.{ref_is, referenced_by_pgn}
use Rattle.rules.specs.SearchLaws.{any_hit}
use native.Mathlib.Omega.{arith}
use mathlib.Core.Bool.{true}
use mathlib.Core.Path.{◌≡◌, ap, sym, ◌∙◌}
use lib.ListN.{length}
use Rattle.rules.proofs.lookup_uses.referenced_by_pgn.Invariants.{refers}
use Rattle.rules.proofs.lookup_uses.referenced_by_pgn.Goals as goal

pub returns-then-ref_is : goal.returns-then-ref_is
unfolding referenced_by_pgn
returns-then-ref_is c =
    let g = c.args.pgn.now in
    let name = bytes_of g.pack.bytes.now c.args.name in
    let h : refers g name c.loop-k.k ≡ true =
    ap (λ (F : Field). ref_is F.reference name) (sym c.field-f.ensures) ∙ sym c.ref_is.ensures ∙ c.if-ref_is.true in
    sym (any_hit (refers g name) (length (pgn_value g).fields) c.loop-k.k (omega (arith, c.loop-k-test.true, g.is.fields)) h)
