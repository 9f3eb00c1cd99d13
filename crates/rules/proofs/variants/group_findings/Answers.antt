use Rattle.pack.specs.Meaning.{pack_of}
use Rattle.pack.specs.Notation.{◌<ᵇ◌, concat_below}
use Rattle.pack.specs.Trees.{tree_number}
use Rattle.pack.specs.Value.{pgns_of}
use Rattle.pack.proofs.Few.{pgns_few}
use Rattle.rules.specs.Search.{count_below}
use Rattle.rules.specs.SearchLaws.{count_turn}
use Rattle.rules.specs.Variants.{group_findings, matchless}
use Rattle.rules.proofs.Emits.{emitted_append, emitted_turn}
use Rattle.rules.specs.Findings.{report_if, group_error}
use Rattle.rules.specs.declared.Finding.{Finding}
use Rattle.rules.proofs.Groups.{hits_few}
use Rattle.rules.proofs.PgnSearches.{searched_turn, searched_to, searched_all}
use native.Mathlib.Omega.{arith}
use mathlib.Core.Path.{◌≡◌, ◌∙◌}
use mathlib.Core.List.{List, ◌++◌}
use Rattle.std.specs.Prelude.{Some}
use Prim.Native.Nat.{ℕ}
use lib.ListN.{length}
use Rattle.rules.proofs.variants.group_findings.Invariants.{of_pgn, lacks}
use Rattle.rules.proofs.variants.group_findings.Goals as goal

module _ (s : List ℕ) (t number w : ℕ) where
  whole : (F : Finding) → w ≡ count_below (lacks s t number) (length (pgns_of (pack_of s) t)) → F ≡ group_error 20 2 t number w
      → group_findings t (pgns_of (pack_of s) t) (Some number)
      ≡ concat_below (of_pgn s t number) (length (pgns_of (pack_of s) t)) ++ report_if (1 <ᵇ w) F
  unfolding group_findings matchless
  whole F c y = rw (← c, y)

pub counted-without-requires : goal.counted-without-requires
counted-without-requires c =
    let p = searched_to c.in-Some.pgn c.next.new.self c.loop-pgn.invariant c.in-Some.ensures.steps in
    omega (arith, p.few, pgns_few c.in-Some.pgn.at)

pub loop-pgn-preserved : goal.loop-pgn-preserved
loop-pgn-preserved c =
    let s = c.args.pack.now.bytes.now in let t = tree_number c.args.protocol in let number = c.args.number in
    searched_turn c.in-Some.pgn c.next.new.self c.loop-pgn.invariant c.in-Some.ensures.steps
    (λ u p.
    let e = rw (u.bytes, u.tree, u.item) at c.matchless_at-hit.ensures in
    record {
      emitted = emitted_turn (of_pgn s t number) (length c.loop-pgn.yielded) p.emitted (rw (u.bytes, u.tree, u.item) at c.variant_at.ensures);
      few = (rw c.counted-without.ensures (hits_few c.matchless_at-hit.result c.loop-pgn.without (length c.loop-pgn.yielded) p.few));
      without = c.counted-without.ensures ∙ (rw (count_turn (lacks s t number) (length c.loop-pgn.yielded), ← e, ← p.without));
    })

pub returns : goal.returns
returns c =
    let s = c.args.pack.now.bytes.now in let p = searched_all c.loop-pgn.invariant c.in-None.ensures.steps.0 in
    rw (whole s (tree_number c.args.protocol) c.args.number c.loop-pgn.without c.group_error.result p.without c.group_error.ensures)
    (emitted_append p.emitted c.put_if.ensures)
