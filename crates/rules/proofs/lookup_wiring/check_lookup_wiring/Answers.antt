use Rattle.pack.specs.Meaning.{pack_of}
use Rattle.pack.specs.Notation.{concat_below}
use Rattle.pack.specs.Value.{Pack, pgns_of, pgn_at, lookup_at}
use Rattle.rules.specs.Findings.{report_if, lookup_warning}
use Rattle.rules.specs.LookupWiring.{check_lookup_refs, check_nested_refs, referenced, check_lookup_wiring}
use Rattle.rules.specs.declared.Finding.{Finding}
use mathlib.Core.Bool.{not}
use mathlib.Core.List.{List, ◌++◌}
use lib.ListN.{length}
use Rattle.rules.proofs.Emits.{emitted_append}
use Rattle.rules.proofs.lookup_wiring.check_lookup_wiring.Goals as goal

abbrev refs : Pack → List Finding
refs P = concat_below (λ t. concat_below (λ i. check_lookup_refs P.lookups t i (pgn_at P t i)) (length (pgns_of P t))) 3

abbrev nested : Pack → List Finding
nested P = concat_below (λ l. check_nested_refs P l (lookup_at P.lookups l)) (length P.lookups)

abbrev unused : Pack → List Finding
unused P = concat_below (λ l. report_if (not (referenced P (lookup_at P.lookups l).name)) (lookup_warning 22 1 l 0 0)) (length P.lookups)

pub returns : goal.returns
unfolding check_lookup_wiring
returns c =
    let P = pack_of c.args.pack.now.bytes.now in
    emitted_append {xs = refs P ++ nested P} {ys = unused P}
    (emitted_append {xs = refs P} {ys = nested P} c.check_all_refs.ensures c.check_all_nested_refs.ensures) c.check_lookup_uses.ensures
