use Rattle.rules.specs.Emit.{Reporting}
use Rattle.rules.proofs.field_rules.check_fields.Given as goal

abbrev pub invariant-loop-k : goal.invariant-loop-k
invariant-loop-k g l = Reporting l.initial.out (g.R.FieldRule.findings l.pgn) l.pgn.view.fields l.k l.out
