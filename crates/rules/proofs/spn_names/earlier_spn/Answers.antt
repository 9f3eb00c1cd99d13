use Rattle.pack.specs.Items.{bytes_of}
use Rattle.pack.specs.Meaning.{pack_of}
use Rattle.pack.specs.Value.{Bytes}
use Rattle.rules.proofs.Candidates.{upto, upto_earlier, candidate_none, candidate_met, candidate_named, candidate_other}
use mathlib.Core.Path.{sym, ◌∙◌, ap}
use Rattle.rules.proofs.spn_names.earlier_spn.Goals as goal

pub loop-found-init : goal.loop-found-init
loop-found-init c =
    let pgns = (pack_of c.args.pack.now.bytes.now).pgns_j1939 in
    ap (λ (t : Bytes). upto pgns t c.args.spn) c.requires ∙ sym (upto_earlier pgns c.args.spn)

pub returns-in_err-found : goal.returns-in_err-found
returns-in_err-found c =
    let s = c.args.pack.now.bytes.now in
    c.from_residual.ensures
    ∙ sym (candidate_none (pack_of s).pgns_j1939 (bytes_of s c.args.name) c.loop-found.b (sym c.in_err-found.ensures)) ∙ c.loop-found.invariant

pub has_name-requires : goal.has_name-requires
has_name-requires c =
    let s = c.args.pack.now.bytes.now in
    (candidate_met (pack_of s).pgns_j1939 (bytes_of s c.args.name) c.loop-found.b c.in_ok-found.found (sym c.in_ok-found.ensures)).1

pub returns-then-has_name : goal.returns-then-has_name
returns-then-has_name c =
    let s = c.args.pack.now.bytes.now in
    sym (candidate_named (pack_of s).pgns_j1939 (bytes_of s c.args.name) c.loop-found.b c.in_ok-found.found (sym c.in_ok-found.ensures)
    (sym c.has_name.ensures ∙ c.if-has_name.true))
    ∙ c.loop-found.invariant

pub loop-found-smaller : goal.loop-found-smaller
loop-found-smaller c =
    let s = c.args.pack.now.bytes.now in
    (candidate_met (pack_of s).pgns_j1939 (bytes_of s c.args.name) c.loop-found.b c.in_ok-found.found (sym c.in_ok-found.ensures)).0

pub loop-found-preserved : goal.loop-found-preserved
loop-found-preserved c =
    let s = c.args.pack.now.bytes.now in
    sym (candidate_other (pack_of s).pgns_j1939 (bytes_of s c.args.name) c.loop-found.b c.in_ok-found.found (sym c.in_ok-found.ensures)
    (sym c.has_name.ensures ∙ c.if-has_name.false))
    ∙ c.loop-found.invariant
