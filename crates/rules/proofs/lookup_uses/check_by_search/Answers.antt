use Rattle.pack.specs.Items.{bytes_of}
use Rattle.pack.specs.Meaning.{pack_of}
use Rattle.pack.specs.Value.{Lookup}
use Rattle.pack.specs.declared.loaded.LookupRef.{LookupRef}
use Rattle.rules.specs.Findings.{report_if, lookup_warning}
use Rattle.rules.specs.LookupWiring.{referenced}
use Rattle.rules.specs.declared.Finding.{Finding}
use Prim.Native.Nat.{ℕ}
use mathlib.Core.Bool.{Bool, not}
use mathlib.Core.List.{List}
use mathlib.Core.Path.{◌≡◌, ap}
use Rattle.rules.proofs.Loops.{lookups_reported, all_lookups}
use Rattle.rules.proofs.lookup_uses.check_by_search.Invariants.{of_lookup}
use Rattle.rules.proofs.lookup_uses.check_by_search.Goals as goal

said : {s : List ℕ} {l : ℕ} (x : LookupRef) (b : Bool) (F : Finding) → x.pack.bytes.now ≡ s → x.item ≡ l
    → b ≡ referenced (pack_of s) (bytes_of s x.view.name) → F ≡ lookup_warning 22 1 x.item 0 0 → of_lookup s l ≡ report_if (not b) F
said x b F e i h f = let q = ap (λ (L : Lookup). L.name) x.is.means in cc

pub loop-lookup-preserved : goal.loop-lookup-preserved
loop-lookup-preserved c =
    lookups_reported c.in-Some.lookup c.next.new.self c.loop-lookup.invariant c.in-Some.ensures.steps
    (λ u. rw (said c.in-Some.lookup c.referenced-used.result c.lookup_warning.result u.bytes u.item c.referenced-used.ensures c.lookup_warning.ensures)
    c.put_if.ensures)

pub returns : goal.returns
returns c = all_lookups c.loop-lookup.invariant c.in-None.ensures.steps.0
