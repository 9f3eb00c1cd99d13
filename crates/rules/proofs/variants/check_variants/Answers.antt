use Rattle.rules.specs.SearchLaws.{ranked_turn, ranked_ends, concat_ends}
use Rattle.rules.specs.Search.{ranked, next_rank}
use Rattle.rules.specs.Variants.{group_findings, check_variants}
use native.Mathlib.Omega.{arith}
use Prim.Native.Nat.{ℕ, ◌+◌, ◌-◌, ◌≤◌}
use mathlib.Core.Path.{◌≡◌, sym, ◌∙◌, ap}
use mathlib.Core.List.{List, []}
use Rattle.std.specs.Prelude.{Option, None, Some}
use lib.ListN.{length}
use Rattle.pack.specs.Notation.{concat_below}
use Rattle.pack.specs.Meaning.{pack_of}
use Rattle.pack.specs.Trees.{tree_number}
use Rattle.pack.specs.Value.{pgns_of}
use Rattle.pack.proofs.Few.{section_count}
use Rattle.rules.proofs.Emits.{reporting_turn}
use Rattle.rules.proofs.variants.check_variants.Invariants.{least, of_rank}
use Rattle.rules.proofs.variants.check_variants.Goals as goal

module _ (s : List ℕ) (t : ℕ) where
  no_group : (o : Option ℕ) → o ≡ None → group_findings t (pgns_of (pack_of s) t) o ≡ []
  unfolding group_findings
  no_group o e = rw e

  -- after the last group nothing follows
  over : (r n : ℕ) → r ≤ n → ranked (least s t) r ≡ None → concat_below (of_rank s t) n ≡ concat_below (of_rank s t) r
  over r n h e =
      let q : r + (n - r) ≡ n = omega arith in
      rw q at (concat_ends (of_rank s t) r (n - r) (λ k. no_group (ranked (least s t) (r + k)) (ranked_ends (least s t) r k e)))

  of_some : (r v : ℕ) → ranked (least s t) r ≡ Some v → of_rank s t r ≡ group_findings t (pgns_of (pack_of s) t) (Some v)
  of_some r v e = ap (group_findings t (pgns_of (pack_of s) t)) e

pub returns-in_default : goal.returns-in_default
unfolding check_variants
returns-in_default c =
    let s = c.args.pack.now.bytes.now in let t = tree_number c.args.protocol in
    let n = section_count c.args.pack.now.indexed c.args.protocol c.section-count.ensures in
    rw (over s t c.loop-r.r (length (pgns_of (pack_of s) t)) (omega (arith, c.loop-r-test.true, n))
    (c.loop-r.invariant.ranked ∙ sym c.in_default.ensures)) c.loop-r.invariant.reporting.emitted

pub loop-r-preserved : goal.loop-r-preserved
loop-r-preserved c =
    let s = c.args.pack.now.bytes.now in let t = tree_number c.args.protocol in
    let e = c.loop-r.invariant.ranked ∙ sym c.in-Some.ensures in
    record {
      reporting = reporting_turn c.loop-r.invariant.reporting c.loop-r-test.true (rw (of_some s t c.loop-r.r c.in-Some.number e) c.group_findings.ensures);
      ranked = ranked_turn (least s t) c.loop-r.r ∙ ap (next_rank (least s t)) e;
    }
