use Rattle.pack.specs.Meaning.{pack_of}
use Rattle.pack.specs.Notation.{concat_below}
use Rattle.pack.specs.Value.{Pack, lookup_at}
use Rattle.rules.specs.Emit.{Emitted}
use Rattle.rules.specs.Findings.{report_if, lookup_warning}
use Rattle.rules.specs.LookupWiring.{referenced}
use Rattle.rules.specs.Marks.{Clear, Marked}
use Rattle.rules.specs.declared.Finding.{Finding}
use Rattle.rules.specs.declared.emit.Findings.{Findings}
use Prim.Native.Nat.{ℕ, ◌≤◌}
use mathlib.Core.Bool.{Bool, false, not}
use mathlib.Core.List.{List}
use mathlib.Core.Path.{◌≡◌, sym, ◌∙◌, ap}
use lib.ListN.{length, get_or}
use Rattle.rules.proofs.Marking.{marks_are, concat_same}
use Rattle.rules.proofs.lookup_uses.check_by_marks.Goals as goal

-- what the marks say is what the rule says
said : (P : Pack) (m m' : List Bool) (count : ℕ) → count ≡ length P.lookups → length P.lookups ≤ length m → Clear m → Marked P m (λ n. referenced P n) m'
    → concat_below (λ l. report_if (not (referenced P (lookup_at P.lookups l).name)) (lookup_warning 22 1 l 0 0)) (length P.lookups)
    ≡ concat_below (λ l. report_if (not (get_or m' l false)) (lookup_warning 22 1 l 0 0)) count
said P m m' count e r z a =
    concat_same (λ l. report_if (not (referenced P (lookup_at P.lookups l).name)) (lookup_warning 22 1 l 0 0))
    (λ l. report_if (not (get_or m' l false)) (lookup_warning 22 1 l 0 0)) (length P.lookups)
    (λ l h. ap (λ (b : Bool). report_if (not b) (lookup_warning 22 1 l 0 0)) (sym (marks_are (λ n. referenced P n) r z a l h)))
    ∙ ap (concat_below (λ l. report_if (not (get_or m' l false)) (lookup_warning 22 1 l 0 0))) (sym e)

emitted_as : {o o' : Findings} {xs ys : List Finding} → xs ≡ ys → Emitted o ys o' → Emitted o xs o'
emitted_as e f = rw e f

pub returns : goal.returns
returns c =
    emitted_as (said (pack_of c.args.pack.now.bytes.now) c.args.marks.now _ c.args.pack.now.index.lookups.count c.args.pack.now.indexed.lookups.count
    c.requires.marks c.requires.clear c.mark_referenced.ensures) c.report_unmarked.ensures
