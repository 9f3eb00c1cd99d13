-- The walk over a PGN's fields and repeating sets (document 01, "The walk", with ticket 3 of document 02 in `passes`).
use Rattle.std.specs.Prelude.{ℕ, zero, suc, pred, Bool, true, false, List, [], ◌∷◌, length, get_or}
use Rattle.std.specs.Prelude.{Option, None, Some}
use Rattle.pack.specs.Value.{no_field, Pgn, Pack}
use Rattle.walk.specs.Layout.{Layout, layout, set_at, end, stop_1}
use Rattle.walk.specs.Stops.{stop_at}
use Rattle.walk.specs.Passes.{passes, Rest, endless, more, Place, first, put, goto, goto_with, Stand, again, arrived, ready, beyond, stand}
use Rattle.walk.specs.Visits.{Visits, latest, is_current}
use Rattle.walk.specs.declared.stops.Stop.{Stop}
use Rattle.walk.specs.declared.stops.Stop.TheVariants.{SetMisplaced, CounterNotCurrent}

-- THE ANSWER: "the end and the number of visits, one for each reading taken"; each visit "writes the index".
pub data End : Type 0 where
  whole : End
  used_up : End
  stop : Stop → End

pub record Answer : Type 0 where
  pub ends : End
  pub visits : List ℕ

abbrev pub no_visit : End → Answer
no_visit e = record { ends = e; visits = [] }

abbrev pub visit_then : ℕ → Answer → Answer
visit_then t a = record { ends = a.ends; visits = t ∷ a.visits }

-- WHAT A WALK REMEMBERS of its visits (M), and what it is asked. The walk of document 01 remembers them all (`by_visits`); code can do
-- with less (`by_place`), and the walk is the same (`agree`).
pub record Memory (M : Type 0) : Type 0 where
  pub fresh : M
  pub begin : M → ℕ → M  -- a pass of set k begins
  pub visit : M → ℕ → ℕ → M  -- the field t is visited, with this reading
  pub current : Place → M → ℕ → Bool  -- is the field t current?
  pub reading : M → ℕ → ℕ → ℕ  -- the latest reading of the field t, which is the countField of set k

-- On arriving at a set: its countField is not current (stop CounterNotCurrent), it is passed over, or entered.
pub data Arrival : Type 0 where
  not_current : Arrival
  over : Arrival
  enter : Rest → Arrival

-- whether the countField is current, and the passes that it gives
abbrev pub counted : Bool → ℕ → Arrival
counted false n = not_current
counted true zero = over
counted true (suc n) = enter (more n)

-- The next field is due, or there is none.
pub data Settled (M : Type 0) : Type 0 where
  past : Settled M  -- the last order is passed
  halted : Settled M  -- stop 2
  due : Place → M → Settled M

-- the stops 3 to 9 at a field: given which fields are current, the field, and the reading, the stop if it stops
abbrev pub Stops : Type 0
Stops = (ℕ → Bool) → ℕ → ℕ → Option Stop

module _ (L : Layout) {M : Type 0} (m : Memory M) where
  -- "On arriving at a nonempty set, a countField gives the passes" (`passes`); "stop 2 if not current."
  unfoldable pub arrive : Place → M → ℕ → Option ℕ → Arrival
  arrive p h k None = enter endless
  arrive p h k (Some zero) = not_current
  arrive p h k (Some (suc t)) = counted (m.current p h t) (passes (get_or L.fields t no_field).res_bits (m.reading h k t))

  -- Until a field is due. Each set that is passed over takes the order up, so that 1 + fields rounds are enough (`enough`).
  unfoldable pub settle : ℕ → Stand → M → Settled M
  settle zero c h = past
  settle (suc rounds) c h = elim c [
    | again k p ↦ due p (m.begin h k)
    | ready p ↦ due p h
    | beyond ↦ past
    | arrived k p ↦ elim (arrive p h k (set_at L k).count_field) [
      | not_current ↦ halted
      | over ↦ settle rounds (stand L (goto p (end L k))) h
      | enter x ↦ due (goto_with p p.order k (Some x)) (m.begin h k)
    ]
  ]

  unfoldable pub settled : Place → M → Settled M
  settled p h = settle (suc (length L.fields)) (stand L p) h

  -- the due field is visited, with the reading r
  unfoldable pub onward : Place → M → ℕ → Settled M
  onward p h r = settled (goto p (suc p.order)) (m.visit h (pred p.order) r)

  -- The walk from here.
  -- "A due field with no reading left ends "used up", before stops 3 to 9; passing the last order ends "whole"."
  -- "The stopping field takes no reading."
  unfoldable pub walk_on : Stops → Settled M → List ℕ → Answer
  walk_on stops c [] = elim c [ past ↦ no_visit whole | halted ↦ no_visit (stop CounterNotCurrent) | due p h ↦ no_visit used_up ]
  walk_on stops c (r ∷ rs) =
      elim c [
        | past ↦ no_visit whole
        | halted ↦ no_visit (stop CounterNotCurrent)
        | due p h ↦
            elim (stops (m.current p h) (pred p.order) r) [
              | Some n ↦ no_visit (stop n)
              | None ↦ visit_then (pred p.order) (walk_on stops (onward p h r) rs)
            ]
      ]

  -- "Stop 1, before any visit"
  unfoldable pub walk_with : Stops → List ℕ → Answer
  walk_with stops rs = elim (stop_1 L) [
    | true ↦ no_visit (stop SetMisplaced)
    | false ↦ walk_on stops (settled first m.fresh) rs
  ]

-- all the visits so far, and since when each set's present pass runs
abbrev pub by_visits : Layout → Memory Visits
by_visits L = record {
  fresh = record { made = []; begun = λ k. 0 };
  begin = λ h k. record { made = h.made; begun = put h.begun k (length h.made) };
  visit = λ h t r. record { made = record { field = t; reading = r } ∷ h.made; begun = h.begun };
  current = λ p h t. is_current L p h t;
  reading = λ h k t. latest h.made t;
}

-- THE WALK over the PGN p of the pack P
unfoldable pub walk : Pack → Pgn → List ℕ → Answer
walk P p readings = walk_with (layout p) (by_visits (layout p)) (stop_at P p) readings
