use mathlib.Core.Path.{sym, ◌∙◌}
use Rattle.pack.specs.Meaning.{pack_of}
use Rattle.rules.proofs.Emits.{emitted_none}
use Rattle.rules.proofs.SpnClashLaws.{no_clash}
use Rattle.rules.proofs.spn_names.check_spn_names.Goals as goal

pub returns-else-may_clash : goal.returns-else-may_clash
returns-else-may_clash c =
    rw (no_clash (pack_of c.args.pack.now.bytes.now).pgns_j1939 (sym c.may_clash.ensures ∙ c.if-may_clash.false)) (emitted_none c.args.out.now)
