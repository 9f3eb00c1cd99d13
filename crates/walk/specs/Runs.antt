-- What a run of visits goes by: orders of which each leads to the next, the passes that are left, and the visits that are written.
use Rattle.std.specs.Prelude.{ℕ, suc, ◌+◌, ◌-◌, ◌≤◌, ◌<◌, ◌≡◌, Bool, true, false, ◌||◌, List, length, get_or, ◌==◌}
use Rattle.std.specs.Prelude.{None, Some}
use Rattle.pack.specs.Meaning.{opt_order}
use Rattle.walk.specs.ByPlace.{placed, counts}
use Rattle.walk.specs.Layout.{Layout}
use Rattle.walk.specs.Passes.{Rest, turn, begins, goto_with}
use Rattle.walk.specs.SetsOf.{SetsAre, value_at}
use Rattle.walk.specs.State.{left_of, left_at, place_of, memory_of}
use Rattle.walk.specs.Steps.{Run}
use Rattle.walk.specs.StopParts.{lets_pass}
use Rattle.walk.specs.Traces.{Later}
use Rattle.walk.specs.Walk.{Stops, due}
use Rattle.walk.specs.declared.known.Memory.{Memory}
use Rattle.walk.specs.declared.runs.StretchEnd.{StretchEnd}
use Rattle.walk.specs.declared.runs.StretchEnd.TheVariants.{Ends, Begins}
use Rattle.walk.specs.declared.sets.Set.{Set}
use Rattle.walk.specs.declared.sets.Sets.{Sets}
use Rattle.walk.specs.declared.stretches.Stretch.{Stretch}
use Rattle.walk.specs.declared.stretches.Ending.{Ending}
use Rattle.walk.specs.declared.trace.Trace.{Trace}
use Rattle.pack.specs.declared.protocol.FieldOrder.{FieldOrder}

-- the set begins at the order n, or ends before it
abbrev pub edge : Set → ℕ → Bool
edge v n = (v.start.0 == n) || (n == v.end.0)

-- A visit at the order o leads to the next order and changes nothing else: no set begins or ends there, and its field is no countField.
pub record PlainAt (v : Sets) (o : ℕ) : Type 0 where
  pub low : o < v.fields
  pub edges : (k : ℕ) → k < 4 → edge (value_at v k) (o + 1) ≡ false
  pub uncounted : (k : ℕ) → k < 4 → counts (opt_order (value_at v k).counter) (o - 1) ≡ false

-- Behind the order o x's set ends, and no later one; a field has its first order; and the field of the order o is no countField.
pub record EndsBehind (v : Sets) (o : ℕ) (x : Ending) : Type 0 where
  pub set : x.set < 4
  pub end : suc o ≡ (value_at v x.set).end.0
  pub last : (j : ℕ) → x.set < j → j < 4 → (suc o == (value_at v j).end.0) ≡ false
  pub start : x.start.0 ≡ (value_at v x.set).start.0
  pub first : 1 ≤ x.start.0
  pub within : x.start.0 ≤ v.fields
  pub uncounted : (k : ℕ) → k < 4 → counts (opt_order (value_at v k).counter) (o - 1) ≡ false

-- Each order of the stretch is plain, and the set that ends it, if one is given, ends there.
pub record Straight (v : Sets) (x : Stretch) : Type 0 where
  pub within : x.to.0 ≤ v.fields
  pub plain : (o : ℕ) → x.from.0 ≤ o → o < x.to.0 → PlainAt v o
  pub ending : (e : Ending) → x.ending ≡ Some e → EndsBehind v x.to.0 e

-- What is so of a stretch whatever the sets are: its orders are orders, and its set one of the four with a first order; of a free one each
-- field is marked to stop at no reading.
pub record Sound (memory : Memory) (x : Stretch) : Type 0 where
  pub first : 1 ≤ x.from.0
  pub order : x.from.0 ≤ x.to.0
  pub free : x.free ≡ true → (o : ℕ) → x.from.0 ≤ o → o < x.to.0 → get_or memory.marks (o - 1) 0 ≡ 1
  pub set : (e : Ending) → x.ending ≡ Some e → e.set < 4
  pub start : (e : Ending) → x.ending ≡ Some e → 1 ≤ e.start.0

-- a pass of set k ends and another begins, from the numbers w to w'
pub record Turns (w : List ℕ) (k : ℕ) (w' : List ℕ) : Type 0 where
  pub rest : Rest
  pub begins : turn true (left_of (left_at w k)) ≡ begins rest
  pub place : (o : ℕ) → place_of o w' ≡ goto_with (place_of o w) o k (Some rest)
  pub memory : memory_of w' ≡ memory_of w

-- The order o is the one behind which set k ends; the visit there with the next reading is let pass, and another pass of the set begins behind it.
pub record PassesOn (memory : Memory) (t : Trace) (to k o : ℕ) (w w' : List ℕ) : Type 0 where
  pub read : t.made < length t.readings.now
  pub at : o ≡ to
  pub passing : lets_pass memory (o - 1) (get_or t.readings.now t.made 0) ≡ true
  pub turns : Turns w k w'

-- What the memory lets pass does not stop, and so these visits are made: from the order o with the numbers w of the passes to o' with w', the
-- trace t being t' then.
pub record RunsTo (v : Sets) (memory : Memory) (t : Trace) (o : ℕ) (w : List ℕ) (t' : Trace) (o' : ℕ) (w' : List ℕ) : Type 0 where
  pub run : (L : Layout) → SetsAre L v → (stops : Stops)
      → ((k reading : ℕ) → lets_pass memory k reading ≡ true → stops (placed L (suc k)) k reading ≡ None)
      → Run L stops t.readings.now t.out.now t.made (due (place_of o w) (memory_of w)) t'.out.now t'.made (due (place_of o' w') (memory_of w'))

abbrev pub reached : StretchEnd → FieldOrder
reached (Ends o) = o
reached (Begins o) = o

-- From the beginning of a stretch a run goes to its end e: an order of each layout for which the stretch is straight. Where a pass begins there, a visit
-- was made.
pub record RunsAlong (memory : Memory) (t : Trace) (s : Stretch) (w : List ℕ) (t' : Trace) (e : StretchEnd) (w' : List ℕ) : Type 0 where
  pub more : (o : FieldOrder) → e ≡ Begins o → t.made < t'.made
  pub later : Later t t'
  pub first : 1 ≤ (reached e).0
  pub within : (v : Sets) → Straight v s → (reached e).0 ≤ v.fields
  pub runs : (v : Sets) → Straight v s → RunsTo v memory t s.from.0 w t' (reached e).0 w'
