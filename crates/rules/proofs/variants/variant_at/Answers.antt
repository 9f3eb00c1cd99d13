use mathlib.Core.Path.{sym, ◌∙◌}
use Rattle.pack.specs.Loaded.{tree_of}
use Rattle.pack.specs.Meaning.{pack_of}
use Rattle.pack.specs.Value.{pgns_of}
use Rattle.rules.specs.Variants.{variant_at, duplicate_of}
use Rattle.rules.proofs.Emits.{emitted_none}
use Rattle.rules.proofs.Groups.{unmatched}
use Rattle.rules.proofs.variants.variant_at.Goals as goal

pub returns-then-not-has_match : goal.returns-then-not-has_match
unfolding variant_at duplicate_of
returns-then-not-has_match c =
    let g = c.args.pgn.now in
    rw (
      sym c.in_group.ensures ∙ c.if-not-in_group.false,
      unmatched (tree_of g) (pgns_of (pack_of g.pack.bytes.now) (tree_of g)) c.args.number g.item (sym c.has_match.ensures ∙ c.if-not-has_match.true),
    )
    (emitted_none c.args.out.now)
