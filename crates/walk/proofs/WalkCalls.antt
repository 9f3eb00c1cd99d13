-- The ends of the calls `walk` and `held`: answer and visit buffer. Both load the pack and name a PGN.
use Prim.Native.Nat.{ℕ}
use mathlib.Core.Path.{◌≡◌, refl, sym, ap, ◌∙◌}
use mathlib.Core.Bool.{Bool, true, false}
use mathlib.Core.List.{List}
use Rattle.std.specs.Prelude.{Result, Ok, Err}
use Rattle.std.specs.Result.{result_ok, result_err}
use Rattle.std.proofs.lemmas.Option.{none-some, same_Some}
use lib.ListN.{length}
use Rattle.pack.specs.Load.{loaded, work_after}
use Rattle.pack.specs.Notation.{◌≤ᵇ◌}
use Rattle.pack.proofs.Told.{told_after}
use Rattle.pack.specs.Loaded.{PgnSpot, pgn_spot, pgn_value}
use Rattle.pack.specs.Meaning.{pack_of}
use Rattle.pack.specs.declared.load.Index.{Index}
use Rattle.pack.specs.declared.loaded.PgnRef.{PgnRef}
use Rattle.pack.specs.declared.load.Refusal.{Refusal}
use Rattle.pack.specs.declared.load.Refusal.TheVariants.{Absent}
use Rattle.pack.specs.Value.{Pgn, Pack, pgn_at}
use Rattle.walk.specs.Held.{held}
use Rattle.walk.specs.Naming.{naming, Judges}
use Rattle.walk.specs.Walk.{End, whole, used_up, stop, Answer, walk}
use Rattle.walk.specs.WalkCall.{in_pack, ending, walk_judged, walk_of, walked}
use Rattle.walk.specs.WalkCall.{visits_after, end_number, ending_number, walk_answer, visits_tell}
use Rattle.walk.specs.WalkCall.{walk_tells, Walks}
use Rattle.walk.specs.WalkCall.{held_judged, held_told, held_answer, held_tell, held_tells, TellsHeld}
use Rattle.walk.specs.declared.walk.Ended.{Ended}

-- ---- naming a PGN

naming_absent : (there : Bool) (x : PgnSpot) (r : Refusal) → Err r ≡ naming there x → (there ≡ false) × (r ≡ Absent)
naming_absent true x r e = absurd (let z = ap result_err e in none-some r (sym z))
naming_absent false x r e = (refl, same_Some r Absent (ap result_err e))

naming_there : (there : Bool) (x y : PgnSpot) → Ok y ≡ naming there x → (there ≡ true) × (y ≡ x)
naming_there true x y e = (refl, same_Some y x (ap result_ok e))
naming_there false x y e = absurd (none-some y (sym (ap result_ok e)))

-- ---- the calls, by what the load and the naming of the PGN answer

pub record Answers (s : List ℕ) (m t i : ℕ) (readings w : List ℕ) (r : Result Ended Refusal) (w' : List ℕ) : Type 0 where
  pub answer : r ≡ walked s m t i readings (length w)
  pub out : w' ≡ visits_after s m t i readings w

module _ (s : List ℕ) (m t i : ℕ) where
  pub walk_refused : (r : Refusal) → loaded s m ≡ Err r → (readings w : List ℕ) → Answers s m t i readings w (Err r) w
  unfolding walked visits_after
  walk_refused r e readings w = record { answer = rw (walked, e); out = rw (visits_after, walked, e) }

  pub held_refused : (r : Refusal) → loaded s m ≡ Err r → Err r ≡ held_told s m t i
  unfolding held_told
  held_refused r e = rw (held_told, e)

  module _ (x : Index) (e : loaded s m ≡ Ok x) (work : List ℕ) where
    abbrev spot : PgnSpot
    spot = record { bytes = s; work = work; tree = t; item = i }

    module _ (r : Refusal) (n : Err r ≡ naming (in_pack (pack_of s) t i) spot) where
      pub walk_absent : (readings w : List ℕ) → Answers s m t i readings w (Err r) w
      unfolding walked visits_after
      walk_absent readings w =
          let q = naming_absent (in_pack (pack_of s) t i) spot r n in
          record { answer = rw (walked, e, q.0, q.1); out = rw (visits_after, walked, e, q.0) }

      pub held_absent : Err r ≡ held_told s m t i
      unfolding held_told
      held_absent = let q = naming_absent (in_pack (pack_of s) t i) spot r n in rw (held_told, e, q.0, q.1)

    module _ (g : PgnRef) (n : Ok (pgn_spot g) ≡ naming (in_pack (pack_of s) t i) spot) where
      is_there : (in_pack (pack_of s) t i ≡ true) × (pgn_spot g ≡ spot)
      is_there = naming_there (in_pack (pack_of s) t i) spot (pgn_spot g) n

      same : {A : Type 0} (f : Pack → Pgn → A) → f (pack_of g.pack.bytes.now) (pgn_value g) ≡ f (pack_of s) (pgn_at (pack_of s) t i)
      same f = ap (λ (o : PgnSpot). f (pack_of o.bytes) (pgn_at (pack_of o.bytes) o.tree o.item)) is_there.1

      pub walk_answers : (readings w : List ℕ) (r : Result Ended Refusal) (w' : List ℕ)
          → Judges (walk (pack_of g.pack.bytes.now) (pgn_value g) readings) (length readings) w w' r → Answers s m t i readings w r w'
      unfolding walked visits_after
      walk_answers readings w r w' j =
          let k : Judges (walk_of s t i readings) (length readings) w w' r = rw (← same (λ P p. walk P p readings)) j in
          record { answer = rw (walked, e, is_there.0) k.answer; out = rw (visits_after, walked, e, is_there.0) k.out }

      pub held_answers : (h : Bool) → h ≡ held (pack_of g.pack.bytes.now) (pgn_value g) → Ok h ≡ held_told s m t i
      unfolding held_told
      held_answers h y = rw (held_told, e, is_there.0) (ap Ok (y ∙ same held))

-- ---- in 01's numbers

end_told : (e : End) → ending_number (ending e) ≡ end_number e
end_told whole = refl
end_told used_up = refl
end_told (stop n) = refl

walk_judged_told : (there : Bool) (readings room : ℕ) (A : Answer) → walk_answer (walk_judged there readings room A) ≡ visits_tell there readings room A
walk_judged_told false readings room A = refl
walk_judged_told true readings room A = go (readings ≤ᵇ room) refl
  where
    go : (b : Bool) → (readings ≤ᵇ room) ≡ b → walk_answer (walk_judged true readings room A) ≡ visits_tell true readings room A
    go true e = rw (e, end_told A.ends)
    go false e = rw e

held_judged_told : (there h : Bool) → held_answer (held_judged there h) ≡ held_tell there h
held_judged_told true h = refl
held_judged_told false h = refl

module _ (s : List ℕ) (m t i : ℕ) where
  walk_told : (readings : List ℕ) (n : ℕ) → walk_answer (walked s m t i readings n) ≡ walk_tells s m t i readings n
  unfolding walked walk_tells
  walk_told readings n = told_after _ s m _ _ (walk_judged_told (in_pack (pack_of s) t i) (length readings) n (walk_of s t i readings))

  held_numbers : held_answer (held_told s m t i) ≡ held_tells s m t i
  unfolding held_told held_tells
  held_numbers = told_after _ s m _ _ (held_judged_told (in_pack (pack_of s) t i) (held (pack_of s) (pgn_at (pack_of s) t i)))

pub walk_promised : (s : List ℕ) (t i : ℕ) (readings w o w' o' : List ℕ) (r : Result Ended Refusal) → Answers s (length w) t i readings o r o'
    → w' ≡ work_after s w → Walks s t i readings w o w' o' r
walk_promised s t i readings w o w' o' r a e =
    record {
      answer = a.answer;
      told = ap walk_answer a.answer ∙ walk_told s (length w) t i readings (length o);
      work = e;
      visits = a.out;
    }

pub held_promised : (s : List ℕ) (t i : ℕ) (w w' : List ℕ) (r : Result Bool Refusal) → r ≡ held_told s (length w) t i → w' ≡ work_after s w
    → TellsHeld s t i w w' r
held_promised s t i w w' r a e = record { answer = a; told = ap held_answer a ∙ held_numbers s (length w) t i; work = e }
