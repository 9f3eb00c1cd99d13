use Rattle.pack.specs.Loaded.{pgn_value}
use Rattle.pack.specs.Value.{Field}
use Rattle.rules.specs.SpnNames.{is_number, spn_field}
use Rattle.rules.specs.SearchLaws.{first_hit}
use native.Mathlib.Omega.{arith}
use mathlib.Core.Path.{sym, ◌∙◌, ap}
use lib.ListN.{length}
use Rattle.rules.proofs.spn_names.spn_field.Invariants.{carries}
use Rattle.rules.proofs.spn_names.spn_field.Goals as goal

pub returns-then-is_number : goal.returns-then-is_number
unfolding spn_field
returns-then-is_number c =
    let p = pgn_value c.args.pgn.now in
    sym (first_hit (carries p c.args.spn) (length p.fields) c.loop-k.k (omega (arith, c.loop-k-test.true, c.args.pgn.now.is.fields)) c.loop-k.invariant
    (ap (λ (F : Field). is_number F.spn c.args.spn) (sym c.field-f.ensures) ∙ sym c.is_number.ensures ∙ c.if-is_number.true))
