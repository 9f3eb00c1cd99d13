-- The definitions of the passes, said of the values and numbers that the code of the walk keeps.
use Rattle.std.specs.Prelude.{◌==◌}
use Prim.Native.Nat.{ℕ, zero, suc, ◌+◌, ◌-◌, ◌≤◌, ◌<◌}
use native.Mathlib.Omega.{arith}
use native.Mathlib.Nat.{zero-add, suc-add}
use mathlib.Core.Path.{◌≡◌, refl, sym, ap, ◌∙◌}
use mathlib.Core.Bool.{Bool, true, false, not, ◌&&◌}
use mathlib.Core.List.{List}
use Rattle.std.specs.Prelude.{Option, None, Some}
use lib.ListN.{length, get_or, get_or-eq_default}
use borrow.Author.Tests.{ne_eqb, lt-ltb, le-ltb}
use Rattle.pack.specs.Meaning.{opt_order}
use Rattle.pack.specs.Value.{no_field}
use Rattle.walk.specs.Layout.{Layout, no_set, set_at, start, end}
use Rattle.walk.specs.Passes.{passes, Rest, endless, Place, present, goto, goto_with, arrives, Stand, again, arrived, ready, beyond, look, Turn}
use Rattle.walk.specs.Passes.{goes_on, leaves, begins, turn, close, stand}
use Rattle.walk.specs.Walk.{Arrival, not_current, over, enter, counted, arrive, Settled, past, halted, due, settle, settled}
use Rattle.walk.specs.ByPlace.{placed, by_place}
use Rattle.walk.specs.SetsOf.{count_bits, IsSet, SetsAre, value_at, has_orders}
use Rattle.walk.specs.State.{left_of, left_at, with_left, place_of, memory_of, stand_of, settled_of, round_of}
use Rattle.pack.specs.declared.protocol.FieldOrder.{FieldOrder}
use Rattle.walk.specs.declared.sets.Set.{Set}
use Rattle.walk.specs.declared.sets.Sets.{Sets}
use Rattle.walk.specs.declared.passes.Further.{Further}
use Rattle.walk.specs.declared.passes.Settling.{Settling}
use Rattle.walk.specs.declared.passes.Round.{Round}
use Rattle.walk.proofs.PassNumbers.{place_put, memory_kept}
use Rattle.walk.proofs.SetValues.{nonempty_at}
use Rattle.walk.specs.declared.passes.Round.TheVariants as rounds
use Rattle.walk.specs.declared.passes.Standing.{Standing}
use Rattle.walk.specs.declared.passes.Standing.TheVariants as standing
use Rattle.walk.proofs.Rounds.{ends_ahead}

-- On arriving at set k, by its value: p is the place, at the order o, and g has the countFields' latest readings.
module _ (L : Layout) (k : ℕ) (set : Set) (is : IsSet L k set) (p : Place) (g : ℕ → ℕ) where
  counter : (m : Option FieldOrder) → set.counter ≡ m → opt_order m ≡ (set_at L k).count_field
  counter m e = ap opt_order (sym e) ∙ is.counter

  pub arrive_endless : set.counter ≡ None → enter endless ≡ arrive L (by_place L) p g k (set_at L k).count_field
  unfolding arrive
  arrive_endless e = rw (← counter None e, arrive)

  pub arrive_not_current : (c : FieldOrder) → set.counter ≡ Some c → c.0 ≡ 0 → not_current ≡ arrive L (by_place L) p g k (set_at L k).count_field
  unfolding arrive
  arrive_not_current c e z = rw (← counter (Some c) e, z, arrive)

  -- with a countField that is current or not: x is what comes of its passes
  pub arrive_at : (c : FieldOrder) → set.counter ≡ Some c → (c.0 ≡ 0 → ⊥) → (o : ℕ) → p.order ≡ o → (count : ℕ) → g k ≡ count
      → (b : Bool) → b ≡ placed L o (c.0 - 1) → (x : Arrival) → x ≡ counted b (passes set.count_bits count)
      → x ≡ arrive L (by_place L) p g k (set_at L k).count_field
  unfolding arrive
  arrive_at c e z o po count gc b h x ex = go c.0 z (counter (Some c) e) h
    where
      go : (n : ℕ) → (n ≡ 0 → ⊥) → Some n ≡ (set_at L k).count_field → b ≡ placed L o (n - 1) → x ≡ arrive L (by_place L) p g k (set_at L k).count_field
      go zero z q h = absurd (z refl)
      go (suc t) z q h =
          let d : suc t - 1 ≡ t = omega arith in
          let bits : set.count_bits ≡ (get_or L.fields t no_field).res_bits = is.bits ∙ ap (count_bits L.fields) (sym q) in
          rw (← q) (ex ∙ rw (po, gc, h, d, bits, arrive))

-- one round, on arriving at set k
module _ (L : Layout) (p : Place) (g : ℕ → ℕ) (k : ℕ) (x : Arrival) (ex : x ≡ arrive L (by_place L) p g k (set_at L k).count_field) (n : ℕ) where
  pub round_not_current : x ≡ not_current → halted ≡ settle L (by_place L) (suc n) (arrived k p) g
  unfolding settle
  round_not_current e = rw (← ex, e, settle)

  pub round_over : x ≡ over → (q : Place) → q ≡ goto p (end L k) → settle L (by_place L) n (stand L q) g ≡ settle L (by_place L) (suc n) (arrived k p) g
  unfolding settle
  round_over e q h = rw (← ex, e, h, settle)

  pub round_enter : (y : Rest) → x ≡ enter y → (q : Place) → q ≡ goto_with p p.order k (Some y) → due q g ≡ settle L (by_place L) (suc n) (arrived k p) g
  unfolding settle
  round_enter y e q h = rw (← ex, e, h, settle)

-- one round, where no set is arrived at
module _ (L : Layout) (g : ℕ → ℕ) (n : ℕ) (c : Stand) where
  pub round_again : (k : ℕ) (p : Place) → again k p ≡ c → due p g ≡ settle L (by_place L) (suc n) c g
  unfolding settle
  round_again k p e = rw (← e, settle)

  pub round_ready : (p : Place) → ready p ≡ c → due p g ≡ settle L (by_place L) (suc n) c g
  unfolding settle
  round_ready p e = rw (← e, settle)

  round_beyond : beyond ≡ c → past ≡ settle L (by_place L) (suc n) c g
  unfolding settle
  round_beyond e = rw (← e, settle)

-- the rounds
module _ (L : Layout) (g : ℕ → ℕ) where
  pub rounds_first : (p : Place) (n : ℕ) → n ≡ suc (length L.fields) → settle L (by_place L) n (stand L p) g ≡ settled L (by_place L) p g
  unfolding settled
  rounds_first p n e = rw e

  pub rounds_none : (c : Stand) (B : Settled (ℕ → ℕ)) (n : ℕ) → n ≤ 0 → settle L (by_place L) n c g ≡ B → past ≡ B
  unfolding settle
  rounds_none c B zero l h = h
  rounds_none c B (suc n) l h = absurd (omega arith)

  module _ (c : Stand) (r : Round) (w : List ℕ) (er : (n : ℕ) → round_of L n r w ≡ settle L (by_place L) (suc n) c g) (B : Settled (ℕ → ℕ)) where
    pub rounds_settled : (n : ℕ) → 0 < n → settle L (by_place L) n c g ≡ B → (x : Settling) → r ≡ rounds.Settled x → settled_of x w ≡ B
    rounds_settled zero l h x e = absurd (omega arith)
    rounds_settled (suc n) l h x e = ap (λ (q : Round). round_of L n q w) (sym e) ∙ er n ∙ h

    pub rounds_over : (n : ℕ) → 0 < n → settle L (by_place L) n c g ≡ B → (o : FieldOrder) → r ≡ rounds.Over o
        → settle L (by_place L) (n - 1) (stand L (place_of o.0 w)) (memory_of w) ≡ B
    rounds_over zero l h o e = absurd (omega arith)
    rounds_over (suc n) l h o e = let d : suc n - 1 ≡ n = omega arith in rw d (ap (λ (q : Round). round_of L n q w) (sym e) ∙ er n ∙ h)

-- a pass of set k, by the value's end
module _ (L : Layout) (k : ℕ) (set : Set) (is_end : set.end.0 ≡ end L k) (p : Place) (x : Turn) (ex : x ≡ turn (p.order == set.end.0) (p.left k)) where
  turns : x ≡ turn (p.order == end L k) (p.left k)
  turns = rw is_end at ex

  pass_goes_on : x ≡ goes_on → close L (suc k) p ≡ close L k p
  unfolding close
  pass_goes_on e = rw (← turns, e, close)

  pass_leaves : x ≡ leaves → close L (suc k) p ≡ close L k (goto_with p p.order k None)
  unfolding close
  pass_leaves e = rw (← turns, e, close)

  pub pass_begins : (y : Rest) → x ≡ begins y → set.start.0 ≡ start L k → close L (suc k) p ≡ again k (goto_with p set.start.0 k (Some y))
  unfolding close
  pass_begins y e is_start = rw (← turns, e, is_start, close)

pub look_all : (L : Layout) (p : Place) (k : ℕ) → k ≤ 0 → ready p ≡ look L k p
unfolding look
look_all L p zero l = refl
look_all L p (suc k) l = absurd (omega arith)

module _ {L : Layout} {v : Sets} (a : SetsAre L v) where
  -- past the last set all are empty
  absent : (d : ℕ) → set_at L (d + length L.sets) ≡ no_set
  absent d = get_or-eq_default L.sets no_set (omega arith)

  arrives_at : (p : Place) (k : ℕ) → arrives L p k ≡ (has_orders (value_at v k) && ((value_at v k).start.0 == p.order) && not (present (p.left k)))
  unfolding arrives
  arrives_at p k = rw (nonempty_at a k) (rw (a.set k).start)

  look_more : (p : Place) (d : ℕ) → look L (d + length L.sets) p ≡ look L (length L.sets) p
  unfolding look arrives
  look_more p zero = rw zero-add
  look_more p (suc d) = rw (suc-add, look, arrives, absent d) (look_more p d)

  close_more : (p : Place) → 1 ≤ p.order → (d : ℕ) → close L (d + length L.sets) p ≡ close L (length L.sets) p
  unfolding close
  close_more p l zero = rw zero-add
  close_more p l (suc d) = rw (suc-add, close, absent d, ne_eqb p.order 0 (λ e. omega (arith, e, l))) (close_more p l d)

  four : 4 - length L.sets + length L.sets ≡ 4
  four = omega (arith, a.few)

  -- from the fourth set down
  pub look_four : (p : Place) → look L 4 p ≡ look L (length L.sets) p
  look_four p = ap (λ (n : ℕ). look L n p) (sym four) ∙ look_more p (4 - length L.sets)

  pub close_four : (p : Place) → 1 ≤ p.order → close L 4 p ≡ stand L p
  unfolding stand
  close_four p l = ap (λ (n : ℕ). close L n p) (sym four) ∙ close_more p l (4 - length L.sets)

  module _ (p : Place) (k : ℕ) (low : 0 < k) (b : Bool)
      (eb : b ≡ (has_orders (value_at v (k - 1)) && ((value_at v (k - 1)).start.0 == p.order) && not (present (p.left (k - 1))))) where
    pub look_hit : b ≡ true → arrived (k - 1) p ≡ look L k p
    unfolding look
    look_hit e =
        let n : k ≡ suc (k - 1) = omega (arith, low) in
        sym (ap (λ (i : ℕ). look L i p) n ∙ (rw (arrives_at p (k - 1), ← eb, e, look)))

    pub look_miss : b ≡ false → look L (k - 1) p ≡ look L k p
    unfolding look
    look_miss e =
        let n : k ≡ suc (k - 1) = omega (arith, low) in
        sym (ap (λ (i : ℕ). look L i p) n ∙ (rw (arrives_at p (k - 1), ← eb, e, look)))

  pub closed_beyond : (p : Place) → v.fields < p.order → beyond ≡ close L 0 p
  unfolding close
  closed_beyond p l = rw (lt-ltb (length L.fields) p.order (omega (arith, a.fields)), close)

  pub closed_look : (p : Place) → p.order ≤ v.fields → look L (length L.sets) p ≡ close L 0 p
  unfolding close
  closed_look p l = rw (le-ltb (length L.fields) p.order (omega (arith, a.fields)), close)

  -- no pass of the sets from k on ends at the order
  pub close_skip : (p : Place) (k n : ℕ) → ((j : ℕ) → k ≤ j → j < n + k → (p.order == (value_at v j).end.0) ≡ false) → close L (n + k) p ≡ close L k p
  close_skip p k zero elsewhere = rw zero-add
  close_skip p k (suc n) elsewhere =
      let ended : (p.order == (value_at v (n + k)).end.0) ≡ false = elsewhere (n + k) (omega arith) (omega arith) in
      ap (λ (i : ℕ). close L i p) (suc-add n k)
      ∙ pass_goes_on L (n + k) (value_at v (n + k)) (a.set (n + k)).end p (turn (p.order == (value_at v (n + k)).end.0) (p.left (n + k))) refl
      (ap (λ (b : Bool). turn b (p.left (n + k))) ended)
      ∙ close_skip p k n (λ j l m. elsewhere j l (omega (arith, m)))

  -- none of the sets below n starts there
  pub look_none : (p : Place) (n : ℕ) → ((j : ℕ) → j < n → ((value_at v j).start.0 == p.order) ≡ false) → look L n p ≡ ready p
  unfolding look
  look_none p zero elsewhere = refl
  look_none p (suc n) elsewhere =
      rw (arrives_at p n, elsewhere n (omega arith), not_there (has_orders (value_at v n)) (not (present (p.left n))), look)
      (look_none p n (λ j l. elsewhere j (omega (arith, l))))
    where
      not_there : (h x : Bool) → (h && false && x) ≡ false
      not_there true x = refl
      not_there false x = refl

-- what comes of set k's pass, in numbers: l is what is left of it, x its turn
module _ (L : Layout) (k : ℕ) (set : Set) (is_end : set.end.0 ≡ end L k) (o : ℕ) (w : List ℕ) (l : Option Further) (el : l ≡ left_at w k) (x : Turn)
    (ex : x ≡ turn (o == set.end.0) (left_of l)) where
  turned : x ≡ turn (o == set.end.0) (left_of (left_at w k))
  turned = rw el at ex

  pub closes_on : x ≡ goes_on → close L (suc k) (place_of o w) ≡ close L k (place_of o w)
  closes_on e = pass_goes_on L k set is_end (place_of o w) x turned e

  module _ (room : length w ≡ 16) (low : k < 4) (v : Option Further) (w' : List ℕ) (ew : w' ≡ with_left w k v) where
    pub closes_left : x ≡ leaves → left_of v ≡ None → close L (suc k) (place_of o w) ≡ close L k (place_of o w')
    closes_left e n =
        pass_leaves L k set is_end (place_of o w) x turned e
        ∙ ap (close L k) (sym (ap (place_of o) ew ∙ place_put w room k low v o o ∙ ap (goto_with (place_of o w) o k) n))

    pub closes_again : (y : Rest) → x ≡ begins y → left_of v ≡ Some y → set.start.0 ≡ start L k
        → close L (suc k) (place_of o w) ≡ again k (place_of set.start.0 w')
    closes_again y e n is_start =
        let s = set.start.0 in
        pass_begins L k set is_end (place_of o w) x turned y e is_start
        ∙ ap (again k) (sym (ap (place_of s) ew ∙ place_put w room k low v s o ∙ ap (goto_with (place_of o w) s k) n))

-- a pass is put for set k
pub entered : (w w' : List ℕ) → length w ≡ 16 → (k : ℕ) → k < 4 → (v : Option Further) → w' ≡ with_left w k v → (y : Rest) → left_of v ≡ Some y → (o : ℕ)
    → place_of o w' ≡ goto_with (place_of o w) o k (Some y)
entered w w' room k low v ew y n o = ap (place_of o) ew ∙ place_put w room k low v o o ∙ ap (goto_with (place_of o w) o k) n

pub kept_memory : (w w' : List ℕ) → length w ≡ 16 → (k : ℕ) → k < 4 → (v : Option Further) → w' ≡ with_left w k v → memory_of w' ≡ memory_of w
kept_memory w w' room k low v ew = ap memory_of ew ∙ memory_kept w room k low v

-- the passes of the sets below k, one set further down
pub close_below : (L : Layout) (k : ℕ) → 0 < k → (p : Place) (c x : Stand) → close L k p ≡ c → close L (suc (k - 1)) p ≡ x → x ≡ c
close_below L k low p c x h e = let n : suc (k - 1) ≡ k = omega (arith, low) in sym e ∙ ap (λ (i : ℕ). close L i p) n ∙ h

-- one round, by how the walk stands: the numbers are w' then
module _ (L : Layout) (w w' : List ℕ) (p : Place) (s : Standing) (o : ℕ) (e : stand_of s o w' ≡ stand L p) (m : memory_of w' ≡ memory_of w) where
  stands : (x : Standing) → s ≡ x → stand_of x o w' ≡ stand L p
  stands x q = ap (λ (y : Standing). stand_of y o w') (sym q) ∙ e

  pub stands_again : (n k : ℕ) (start : FieldOrder) → s ≡ standing.Again k start
      → due (place_of start.0 w') (memory_of w') ≡ settle L (by_place L) (suc n) (stand L p) (memory_of w)
  stands_again n k start q =
      ap (due (place_of start.0 w')) m ∙ round_again L (memory_of w) n (stand L p) k (place_of start.0 w') (stands (standing.Again k start) q)

  pub stands_ready : (n : ℕ) → s ≡ standing.Ready → due (place_of o w') (memory_of w') ≡ settle L (by_place L) (suc n) (stand L p) (memory_of w)
  stands_ready n q = ap (due (place_of o w')) m ∙ round_ready L (memory_of w) n (stand L p) (place_of o w') (stands standing.Ready q)

  pub stands_beyond : (n : ℕ) → s ≡ standing.Beyond → past ≡ settle L (by_place L) (suc n) (stand L p) (memory_of w)
  stands_beyond n q = round_beyond L (memory_of w) n (stand L p) (stands standing.Beyond q)

  module _ (k : ℕ) (q : s ≡ standing.Arrived k) where
    pub stands_arrived : (n : ℕ)
        → settle L (by_place L) (suc n) (arrived k (place_of o w')) (memory_of w') ≡ settle L (by_place L) (suc n) (stand L p) (memory_of w)
    stands_arrived n =
        ap (settle L (by_place L) (suc n) (arrived k (place_of o w'))) m
        ∙ ap (λ (c : Stand). settle L (by_place L) (suc n) c (memory_of w)) (stands (standing.Arrived k) q)

    pub arrived_end : {v : Sets} → SetsAre L v → 1 ≤ (value_at v k).end.0
    arrived_end {v} a = omega (arith, (a.set k).end, ends_ahead L p (place_of o w') k (stands (standing.Arrived k) q))
