use Rattle.rules.specs.Check.{check}
use Rattle.rules.specs.LookupNames.{check_lookup_names}
use Rattle.rules.proofs.Emits.{emitted_append}
use Rattle.rules.proofs.check.check_all.Goals as goal

pub returns : goal.returns
unfolding check check_lookup_names
returns c =
    emitted_append (emitted_append (emitted_append (emitted_append (emitted_append c.check_fieldtypes.ensures c.check_lookup_wiring.ensures)
    (emitted_append c.check_spn_names.ensures c.check_lookup_names.ensures)) c.check_trees.ensures) c.check_spns.ensures)
    c.check_trees_continues.ensures
