-- Demand 3 from the contracts of the two calls and the guarantee.
use Rattle.std.specs.Prelude.{Result}
use Prim.Native.Nat.{ℕ, ◌*◌}
use mathlib.Core.Path.{◌≡◌, refl}
use mathlib.Core.Bool.{Bool, true, false, false≢true}
use mathlib.Core.List.{List}
use lib.ListN.{length}
use lib.Dec.{ltb, leb}
use borrow.Author.Tests.{ltb-true, leb-false, eqb-true}
use Rattle.pack.specs.Load.{Verdict, refused, accepted, verdict, load_index, loaded}
use Rattle.pack.specs.Meaning.{pack_of}
use Rattle.pack.specs.Value.{Pgn, Pack, pgns_of, pgn_at}
use Rattle.pack.specs.declared.load.Refusal.{Refusal}
use Rattle.rules.specs.Check.{check}
use Rattle.rules.specs.Clean.{errors_clean}
use Rattle.rules.specs.Checked.{checked}
use Rattle.rules.specs.Findings.{errors, without_error}
use Rattle.rules.specs.declared.check.Reported.{Reported}
use Rattle.walk.specs.Demand3.{clean, Kept, work_short, visits_short, walked_whole, walked_used_up, Demand3}
use Rattle.walk.specs.Guarantee.{Unstopped, ends_whole, ends_used_up}
use Rattle.walk.specs.Held.{held}
use Rattle.walk.specs.HeldReadings.{held_nonempty, held_letter, held_letter_nonempty, held_where_nested, held_widest}
use Rattle.walk.specs.WalkCall.{in_pack, walk_of, walked, visits_after}
use Rattle.walk.specs.declared.walk.Ended.{Ended}
use Rattle.walk.proofs.Tests.{and_l, and_r}
use Rattle.walk.proofs.HeldWidest.{held_implies_widest, nonempty_implies_widest, letter_of_pack, letter_nonempty_of_pack, where_nested_of_pack}
use Rattle.walk.proofs.NoStop.{guarantee_widest}

-- a clean check was made of an accepted pack
pub record Clean (s : List ℕ) : Type 0 where
  pub taken : verdict s ≡ accepted
  pub quiet : without_error (check (pack_of s)) ≡ true

clean_means : (s : List ℕ) (m n : ℕ) → clean (checked s m n) ≡ true → Clean s
unfolding checked loaded
clean_means s m n h = go (verdict s) refl (leb (load_index s).records m) refl (leb (8 * length (check (pack_of s))) n) refl
  where
    go : (v : Verdict) → verdict s ≡ v → (a : Bool) → leb (load_index s).records m ≡ a → (b : Bool) → leb (8 * length (check (pack_of s))) n ≡ b → Clean s
    go (refused r) ev a ea b eb = absurd (false≢true (rw (checked, loaded, ev) at h))
    go accepted ev false ea b eb = absurd (false≢true (rw (checked, loaded, ev, ea) at h))
    go accepted ev true ea false eb = absurd (false≢true (rw (checked, loaded, ev, ea, eb) at h))
    go accepted ev true ea true eb = record {
      taken = ev;
      quiet = errors_clean (check (pack_of s)) (eqb-true (errors (check (pack_of s))) 0 (rw (checked, loaded, ev, ea, eb) at h));
    }

kept : (s : List ℕ) (m t i : ℕ) (readings w : List ℕ) → verdict s ≡ accepted → in_pack (pack_of s) t i ≡ true
    → Unstopped (walk_of s t i readings) (length readings)
    → Kept (walk_of s t i readings) (length readings) m w (visits_after s m t i readings w) (walked s m t i readings (length w))
unfolding walked visits_after loaded
kept s m t i readings w ev there u = go (leb (load_index s).records m) refl (leb (length readings) (length w)) refl u
  where
    go : (a : Bool) → leb (load_index s).records m ≡ a → (b : Bool) → leb (length readings) (length w) ≡ b
        → Unstopped (walk_of s t i readings) (length readings)
        → Kept (walk_of s t i readings) (length readings) m w (visits_after s m t i readings w) (walked s m t i readings (length w))
    go false ea b eb u = work_short (load_index s).records (leb-false _ _ ea) (rw (ev, ea)) (rw (ev, ea))
    go true ea false eb u = visits_short (leb-false _ _ eb) (rw (ev, ea, there, eb)) (rw (ev, ea, there, eb))
    go true ea true eb (ends_whole q l) = walked_whole (rw (ev, ea, there, eb, q)) q l (rw (ev, ea, there, eb))
    go true ea true eb (ends_used_up q l) = walked_used_up (rw (ev, ea, there, eb, q)) q l (rw (ev, ea, there, eb))

-- the two calls' answers, by their contracts
module _ (s : List ℕ) (t i : ℕ) (readings w : List ℕ) (k m n : ℕ) (c : Result Reported Refusal) (r : Result Ended Refusal) (w' : List ℕ)
    (ec : c ≡ checked s k n) (er : r ≡ walked s m t i readings (length w)) (ew : w' ≡ visits_after s m t i readings w) where
  abbrev P : Pack
  P = pack_of s

  abbrev p : Pgn
  p = pgn_at P t i

  -- where being held is enough for `held_widest`, of the PGN that is walked
  pub demand_3_by : (is_held : Pack → Pgn → Bool) → (is_held P p ≡ true → held_widest P p ≡ true) → Demand3 is_held s t i readings m w w' c r
  demand_3_by is_held enough h there is =
      let a = clean_means s k n (rw ec at h) in
      let tree = ltb-true _ _ (and_l (ltb t 3) (ltb i (length (pgns_of P t))) there) in
      let pgn = ltb-true _ _ (and_r (ltb t 3) (ltb i (length (pgns_of P t))) there) in
      rw (er, ew) (kept s m t i readings w a.taken there (guarantee_widest P t i tree pgn a.quiet (enough is) readings))

  -- under the widest reading, and so under `held`'s
  pub demand_3 : Demand3 held s t i readings m w w' c r × Demand3 held_widest s t i readings m w w' c r
  demand_3 = (demand_3_by held (held_implies_widest P p), demand_3_by held_widest (λ h. h))

  -- and under the others
  pub demand_3_readings : Demand3 held_nonempty s t i readings m w w' c r
      × Demand3 held_letter s t i readings m w w' c r
      × Demand3 held_letter_nonempty s t i readings m w w' c r
      × Demand3 held_where_nested s t i readings m w w' c r
  demand_3_readings = (
    demand_3_by held_nonempty (nonempty_implies_widest P p),
    demand_3_by held_letter (letter_of_pack s t i),
    demand_3_by held_letter_nonempty (letter_nonempty_of_pack s t i),
    demand_3_by held_where_nested (where_nested_of_pack s t i),
  )
