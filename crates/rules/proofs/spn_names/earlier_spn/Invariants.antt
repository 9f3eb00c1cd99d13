use Rattle.pack.specs.Items.{bytes_of}
use Rattle.rules.proofs.Candidates.{upto}
use Rattle.rules.specs.SpnNames.{earlier_spn}
use mathlib.Core.Path.{◌≡◌}
use Rattle.pack.specs.Meaning.{pack_of}
use Rattle.rules.proofs.spn_names.earlier_spn.Given as goal

abbrev pub invariant-loop-found : goal.invariant-loop-found
invariant-loop-found l =
    let s = l.pack.bytes.now in
    upto (pack_of s).pgns_j1939 (bytes_of s l.name) l.b ≡ earlier_spn (pack_of s).pgns_j1939 l.spn

abbrev pub decreases-loop-found : goal.decreases-loop-found
decreases-loop-found l = l.b
