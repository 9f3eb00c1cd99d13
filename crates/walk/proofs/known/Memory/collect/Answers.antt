use Rattle.std.specs.Prelude.{if◌then◌else◌}
use Rattle.walk.specs.Stops.{names_missing}
use Rattle.walk.specs.StopParts.{Collected}
use Rattle.walk.proofs.Readings.{collected_turn}
use Rattle.pack.specs.declared.entry.EntryView.{EntryView}
use Rattle.pack.specs.Value.{Entry, entry_at}
use Rattle.pack.specs.Notation.{◌<ᵇ◌}
use Rattle.pack.specs.Meaning.{entry_meaning, pack_of}
use lib.ListN.{set}
use mathlib.Core.Path.{◌≡◌, sym, ap, ◌∙◌}
use mathlib.Core.List.{List}
use mathlib.Core.Bool.{Bool, ◌&&◌}
use Prim.Native.Nat.{ℕ, ◌+◌, ◌≤◌}
use native.Mathlib.Omega.{arith}
use Rattle.walk.proofs.known.Memory.collect.Goals as goal

-- a turn, with the entry as it was read
turned : (s : List ℕ) {es : List Entry} {e at : ℕ} {bad bad' bad'' : List ℕ} {n n' : ℕ} (v : EntryView) (hit : Bool)
    → Collected (pack_of s) es e at bad bad' n → n ≤ 4 → entry_meaning s v ≡ entry_at es e → hit ≡ names_missing (pack_of s) (entry_meaning s v)
    → n' ≡ (if hit then n + 1 else n) → bad'' ≡ (if hit && (n <ᵇ 4) then set bad' (at + n) v.value else bad')
    → Collected (pack_of s) es (e + 1) at bad bad'' n'
turned s v hit c few y h count values =
    collected_turn hit v.value c few (sym (h ∙ ap (names_missing (pack_of s)) y)) (sym (ap (λ (E : Entry). E.value) y)) count values

pub loop-e-preserved : goal.loop-e-preserved
loop-e-preserved c =
    record {
      few = omega (arith, c.if-n-gt4.false);
      marks = c.keep-n.ensures.marks ∙ c.loop-e.invariant.marks;
      collected = turned c.args.lookup.now.pack.bytes.now c.entry-entry.result c.names_missing-hit.result c.loop-e.invariant.collected c.loop-e.invariant.few
          c.entry-entry.ensures c.names_missing-hit.ensures c.keep-n.ensures.count c.keep-n.ensures.values;
    }
