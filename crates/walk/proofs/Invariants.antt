-- What holds where the walk stands: of its visits (`Law`), of the sets' passes at a due field (`Due`) and between two visits (`Moved`).
use Prim.Native.Nat.{ℕ, zero, suc, pred, ◌≤◌, ◌<◌}
use native.Mathlib.Omega.{arith}
use native.Mathlib.Decide.{ℕ_discrete}
use mathlib.Core.Path.{◌≡◌, refl, sym, subst, ◌∙◌}
use mathlib.Core.List.{List, [], ◌∷◌}
use Rattle.std.specs.Prelude.{Option, None, Some}
use mathlib.Core.Bool.{Bool, true, false, ◌&&◌, ◌||◌, false≢true}
use lib.ListN.{length}
use lib.Dec.{ltb, eqb}
use borrow.Author.Tests.{ltb-true, ltb-false, eqb-true, eqb-false, not-true, not-false, lt-ltb, le-leb, lt-leb, eq-eqb, ne_eqb}
use Rattle.walk.specs.Layout.{Layout, set_at, start, end}
use Rattle.walk.specs.Passes.{Rest, endless, more, present, Place, first, goto, goto_with, arrives, Stand, again, arrived, ready, beyond, look, close}
use Rattle.walk.specs.Passes.{stand}
use Rattle.walk.specs.Visits.{Visit, Visits, visited}
use Rattle.walk.specs.Walk.{by_visits}
use Rattle.walk.proofs.Tests.{and_l, and_r, put_same, put_other, tri}
use Rattle.walk.proofs.SetFacts.{Holds, short, Good}

-- set k has a present pass
abbrev pub Present : Place → ℕ → Type 0
Present p k = present (p.left k) ≡ true

-- THE LAW OF THE VISITS: a field is current exactly if it comes before the order that is next
-- and each set that holds it has a present pass
pub record Current (L : Layout) (l : ℕ → Option Rest) (h : Visits) (t : ℕ) : Type 0 where
  pub ever : visited 0 h.made t ≡ true
  pub here : (k : ℕ) → Holds L k (suc t) → present (l k) ≡ true
  pub lately : (k : ℕ) → Holds L k (suc t) → visited (h.begun k) h.made t ≡ true

pub record Behind (L : Layout) (p : Place) (t : ℕ) : Type 0 where
  pub below : suc t < p.order
  pub here : (k : ℕ) → Holds L k (suc t) → Present p k

pub record Law (L : Layout) (p : Place) (h : Visits) : Type 0 where
  pub fwd : (t : ℕ) → Current L p.left h t → Behind L p t
  pub bwd : (t : ℕ) → Behind L p t → Current L p.left h t
  pub early : (k : ℕ) → h.begun k ≤ length h.made

since_none : (b : ℕ) (vs : List Visit) (t : ℕ) → length vs ≤ b → visited b vs t ≡ true → ⊥
unfolding visited
since_none b [] t l e = false≢true e
since_none b (v ∷ vs) t l e = since_none b vs t (omega arith) (go (eqb v.field t) (rw (lt-leb b (length vs) (omega arith)) at e))
  where
    go : (x : Bool) → (x && false || visited b vs t) ≡ true → visited b vs t ≡ true
    go true e = e
    go false e = e

apart : (L : Layout) (j k o : ℕ) → Holds L j o → (Holds L k o → ⊥) → j ≡ k → ⊥
apart L j k o h n q = n (subst (λ (i : ℕ). Holds L i o) q h)

before : (L : Layout) (k o : ℕ) → (Holds L k o → ⊥) → o < end L k → o < start L k
before L k o n l = tri o (start L k) (λ a. a) (λ q. absurd (n (omega arith))) (λ a. absurd (n (omega arith)))

module _ (L : Layout) (p : Place) (h : Visits) (law : Law L p h) where
  -- the passes of set k are set again, and the order with them
  law_set : (k o : ℕ) (x : Option Rest) (b : ℕ → ℕ)
      → ((j : ℕ) → (j ≡ k → ⊥) → b j ≡ h.begun j) → b k ≤ length h.made
      → ((t : ℕ) → Holds L k (suc t) → suc t < o → present x ≡ true → ⊥)
      → ((t : ℕ) → Holds L k (suc t) → present x ≡ true → visited (b k) h.made t ≡ true → ⊥)
      → ((t : ℕ) → (Holds L k (suc t) → ⊥) → suc t < p.order → suc t < o)
      → ((t : ℕ) → (Holds L k (suc t) → ⊥) → suc t < o → suc t < p.order)
      → Law L (goto_with p o k x) (record { made = h.made; begun = b })
  law_set k o x b other early-k no-behind no-current up down = record {
    fwd = λ t c.
        let n : Holds L k (suc t) → ⊥ = λ a. no-current t a (rw put_same at (c.here k a)) (c.lately k a) in
        let d = law.fwd t (record {
          ever = c.ever;
          here = λ j a. rw (put_other p.left k x j (apart L j k _ a n)) at (c.here j a);
          lately = λ j a. rw (other j (apart L j k _ a n)) at (c.lately j a);
        }) in
        record { below = up t n d.below; here = λ j a. rw (put_other p.left k x j (apart L j k _ a n)) (d.here j a) };
    bwd = λ t d.
        let n : Holds L k (suc t) → ⊥ = λ a. no-behind t a d.below (rw put_same at (d.here k a)) in
        let c = law.bwd t (record {
          below = down t n d.below;
          here = λ j a. rw (put_other p.left k x j (apart L j k _ a n)) at (d.here j a);
        }) in
        record {
          ever = c.ever;
          here = d.here;
          lately = λ j a. rw (other j (apart L j k _ a n)) (c.lately j a);
        };
    early = λ j. go j (ℕ_discrete j k);
  }
    where
      go : (j : ℕ) → Dec (j ≡ k) → b j ≤ length h.made
      go j (yes q) = rw q early-k
      go j (no q) = rw (other j q) (law.early j)

  -- set k is left
  law_leave : (k : ℕ) → Law L (goto_with p p.order k None) h
  law_leave k = law_set k p.order None h.begun (λ j n. refl) (law.early k)
      (λ t a b e. false≢true e) (λ t a e s. false≢true e) (λ t n l. l) (λ t n l. l)

  -- a pass of set k begins, here or visit_then one that ends here
  pub law_begin : (k : ℕ) (x : Option Rest) → start L k ≤ p.order → p.order ≤ end L k → Law L (goto_with p (start L k) k x) ((by_visits L).begin h k)
  law_begin k x l u = law_set k (start L k) x _ (λ j n. put_other h.begun k _ j n) (rw put_same (omega arith))
      (λ t a b e. omega arith) (λ t a e s. since_none _ h.made t (omega arith) (rw put_same at s)) (λ t n b. before L k (suc t) n (omega arith))
      (λ t n b. omega arith)

  -- set k is passed over
  pub law_over : (k : ℕ) → start L k ≡ p.order → (Present p k → ⊥) → Law L (goto p (end L k)) h
  law_over k q n = record {
    fwd = λ t c. let d = law.fwd t c in record { below = omega arith; here = d.here };
    bwd = λ t d. law.bwd t (record { below = omega (arith, before L k (suc t) (λ a. n (d.here k a)) d.below); here = d.here });
    early = law.early;
  }

-- THE LAW OF THE PASSES: where a field is due, the sets with a present pass are those that hold its order
pub record Due (L : Layout) (p : Place) : Type 0 where
  pub holding : (j : ℕ) → Present p j → Holds L j p.order
  pub held : (j : ℕ) → Holds L j p.order → Present p j
  pub low : 1 ≤ p.order
  pub high : p.order ≤ length L.fields

-- before that: w is the order visited last, and the sets from k on have been closed
pub record Moved (L : Layout) (w k : ℕ) (p : Place) : Type 0 where
  pub ahead : w < p.order
  pub from : (j : ℕ) → Present p j → start L j ≤ w
  pub upto : (j : ℕ) → Present p j → p.order ≤ end L j
  pub done : (j : ℕ) → Present p j → k ≤ j → p.order < end L j
  pub stay : (j : ℕ) → start L j ≤ w → p.order < end L j → Present p j
  pub todo : (j : ℕ) → start L j ≤ w → p.order ≤ end L j → j < k → Present p j
  pub clear : (j : ℕ) → start L j < p.order → p.order < end L j → start L j ≤ w

-- a field is visited
module _ (L : Layout) (p : Place) (h : Visits) (law : Law L p h) (d : Due L p) (r : ℕ) where
  since_hit : (b : ℕ) → b ≤ length h.made → (t : ℕ) → suc t ≡ p.order → visited b ((by_visits L).visit h (pred p.order) r).made t ≡ true
  unfolding visited
  since_hit b l t q = rw (eq-eqb (pred p.order) t (omega arith), le-leb b (length h.made) l)

  since_miss : (b t : ℕ) → (suc t ≡ p.order → ⊥) → visited b ((by_visits L).visit h (pred p.order) r).made t ≡ visited b h.made t
  unfolding visited
  since_miss b t q = let l = d.low in rw (ne_eqb (pred p.order) t (λ e. q (omega arith)))

  pub law_visit : Law L (goto p (suc p.order)) ((by_visits L).visit h (pred p.order) r)
  law_visit = record {
    fwd = λ t c. fwd t c (ℕ_discrete (suc t) p.order);
    bwd = λ t c. bwd t c (ℕ_discrete (suc t) p.order);
    early = λ k. omega (arith, law.early k);
  }
    where
      fwd : (t : ℕ) → Current L p.left ((by_visits L).visit h (pred p.order) r) t → Dec (suc t ≡ p.order) → Behind L (goto p (suc p.order)) t
      fwd t c (yes q) = record { below = omega arith; here = c.here }
      fwd t c (no q) =
          let b = law.fwd t
          (record { ever = rw (since_miss 0 t q) at c.ever; here = c.here; lately = λ k a. rw (since_miss (h.begun k) t q) at (c.lately k a) }) in
          record { below = omega arith; here = b.here }

      bwd : (t : ℕ) → Behind L (goto p (suc p.order)) t → Dec (suc t ≡ p.order) → Current L p.left ((by_visits L).visit h (pred p.order) r) t
      bwd t b (yes q) = record { ever = since_hit 0 (omega arith) t q; here = b.here; lately = λ k a. since_hit (h.begun k) (law.early k) t q }
      bwd t b (no q) =
          let l : suc t < suc p.order = b.below in
          let c = law.bwd t (record { below = omega arith; here = b.here }) in
          record { ever = rw (since_miss 0 t q) c.ever; here = b.here; lately = λ k a. rw (since_miss (h.begun k) t q) (c.lately k a) }

  pub moved_visit : Moved L p.order (length L.sets) (goto p (suc p.order))
  moved_visit = record {
    ahead = omega arith;
    from = λ j e. (d.holding j e).0;
    upto = λ j e. (d.holding j e).1;
    done = λ j e l. omega (arith, short L j p.order (d.holding j e));
    stay = λ j a b. d.held j (omega arith);
    todo = λ j a b l. d.held j (omega arith);
    clear = λ j a b. omega arith;
  }

-- the sets with a present pass, visit_then set k's passes were set to x
module _ (p : Place) (o k : ℕ) (x : Option Rest) where
  kept : (j : ℕ) → (j ≡ k → ⊥) → Present p j → Present (goto_with p o k x) j
  kept j n e = rw (put_other p.left k x j n) e

  put_in : (j : ℕ) → present x ≡ true → j ≡ k → Present (goto_with p o k x) j
  put_in j e q = rw (q, put_same) e

  was : (j : ℕ) → Present (goto_with p o k x) j → (j ≡ k → ⊥) → Present p j
  was j e n = rw (put_other p.left k x j n) at e

  not_out : (j : ℕ) → present x ≡ false → Present (goto_with p o k x) j → j ≡ k → ⊥
  not_out j f e q = false≢true (sym f ∙ (rw (q, put_same) at e))

-- ON ARRIVING
pub record Arriving (L : Layout) (p : Place) (k : ℕ) : Type 0 where
  pub full : 0 < (set_at L k).count
  pub starts : start L k ≡ p.order
  pub outside : Present p k → ⊥

pub arrives_e : (L : Layout) (p : Place) (k : ℕ) → arrives L p k ≡ true → Arriving L p k
unfolding arrives
arrives_e L p k e = record {
  full = ltb-true _ _ (search (and_l, and_r));
  starts = eqb-true _ _ (search (and_l, and_r));
  outside = λ a. false≢true (sym (not-true _ (search (and_l, and_r))) ∙ a);
}

arrives_f : (L : Layout) (p : Place) (k : ℕ) → arrives L p k ≡ false → Holds L k p.order → start L k ≡ p.order → Present p k
unfolding arrives
arrives_f L p k e a q = not-false (present (p.left k)) (rw (lt-ltb 0 (set_at L k).count (omega arith), eq-eqb (start L k) p.order q) at e)

-- a set that is arrived at is entered
pub entering : (L : Layout) (p : Place) (h : Visits) → Law L p h → (k : ℕ) (x : Rest) → Arriving L p k
    → Law L (goto_with p p.order k (Some x)) ((by_visits L).begin h k)
entering L p h law k x a =
    subst (λ (o : ℕ). Law L (goto_with p o k (Some x)) ((by_visits L).begin h k)) a.starts
    (law_begin L p h law k (Some x) (omega (arith, a.starts)) (omega (arith, a.starts)))

-- the passes that end here are closed
module _ (L : Layout) (w : ℕ) (p : Place) (m : Moved L w 0 p) where
  pub now : (j : ℕ) → Present p j → Holds L j p.order
  now j a = omega (arith, m.ahead, m.from j a, m.done j a (omega arith))

  pub still : (j : ℕ) → start L j < p.order → Holds L j p.order → Present p j
  still j l a = m.stay j (m.clear j l a.1) a.1

module _ (L : Layout) (G : Good L) (w : ℕ) (p : Place) (m : Moved L w 0 p) (high : p.order ≤ length L.fields) where
  due_here : ((j : ℕ) → j < length L.sets → arrives L p j ≡ false) → Due L p
  due_here f = record {
    holding = now L w p m;
    held = λ j a. tri (start L j) p.order
        (λ l. still L w p m j l a)
        (λ q. arrives_f L p j (f j (short L j p.order a)) a q)
        (λ l. absurd (omega arith));
    low = omega (arith, m.ahead);
    high = high;
  }

  pub due_enter : (k : ℕ) (x : Rest) → Arriving L p k → Due L (goto_with p p.order k (Some x))
  due_enter k x v = record {
    holding = λ j a. go j a (ℕ_discrete j k);
    held = λ j a. tri j k
        (λ l. let i = G.inside j k p.order l a hk in kept p p.order k (Some x) j (λ r. omega arith) (still L w p m j (omega (arith, v.starts)) a))
        (λ r. put_in p p.order k (Some x) j refl r)
        (λ l. let i = G.inside k j p.order l hk a in absurd (omega arith));
    low = omega (arith, m.ahead);
    high = high;
  }
    where
      hk : Holds L k p.order
      hk = omega (arith, v.full, v.starts)

      go : (j : ℕ) → Present (goto_with p p.order k (Some x)) j → Dec (j ≡ k) → Holds L j p.order
      go j a (yes r) = rw r hk
      go j a (no r) = now L w p m j (was p p.order k (Some x) j a r)

  pub moved_over : (k : ℕ) → Arriving L p k → Moved L w (length L.sets) (goto p (end L k))
  moved_over k v =
      let hk : Holds L k p.order = omega (arith, v.full, v.starts) in
      let up : (j : ℕ) → Present p j → end L k ≤ end L j = λ j a.
      let hj : Holds L j p.order = now L w p m j a in
      tri j k (λ l. (G.inside j k p.order l hj hk).1) (λ r. rw r (omega arith))
      (λ l. let i = G.inside k j p.order l hk hj in absurd (omega (arith, m.ahead, m.from j a))) in
      record {
        ahead = omega (arith, m.ahead);
        from = m.from;
        upto = up;
        done = λ j a l. absurd (omega (arith, short L j w (m.from j a, omega (arith, up j a, m.ahead))));
        stay = λ j a b. m.stay j a (omega arith);
        todo = λ j a b l. m.stay j a (omega arith);
        clear = λ j a b. tri j k
            (λ l. let i = G.inside j k (pred (end L k)) l (omega arith) (omega arith) in m.clear j (omega arith) (omega arith))
            (λ r. let u = rw r at b in absurd (omega arith))
            (λ l. let i = G.inside k j (pred (end L k)) l (omega arith) (omega arith) in absurd (omega arith));
      }

-- WHERE THE WALK STANDS, with the laws
pub record Met (L : Layout) (w : ℕ) (h : Visits) (k : ℕ) (q : Place) : Type 0 where
  pub moved : Moved L w 0 q
  pub high : q.order ≤ length L.fields
  pub law : Law L q h
  pub arriving : Arriving L q k

abbrev pub Stood : Layout → ℕ → Visits → Stand → Type 0
Stood L w h (again k q) = Due L q × Law L q ((by_visits L).begin h k)
Stood L w h (ready q) = Due L q × Law L q h
Stood L w h beyond = Unit {0}
Stood L w h (arrived k q) = Met L w h k q

module _ (L : Layout) (G : Good L) (w : ℕ) (h : Visits) where
  -- set k goes-on: it does not end here, or has no present pass
  moved_stay : (k : ℕ) (p : Place) → Moved L w (suc k) p → (Present p k → p.order ≡ end L k → ⊥) → Moved L w k p
  moved_stay k p m n = record {
    ahead = m.ahead;
    from = m.from;
    upto = m.upto;
    stay = m.stay;
    clear = m.clear;
    done = λ j e l. go j e l (ℕ_discrete j k);
    todo = λ j a b l. m.todo j a b (omega arith);
  }
    where
      go : (j : ℕ) → Present p j → k ≤ j → Dec (j ≡ k) → p.order < end L j
      go j e l (yes q) = let n' = n (rw q at e) in let u = m.upto k (rw q at e) in rw q (omega arith)
      go j e l (no q) = m.done j e (omega arith)

  moved_leave : (k : ℕ) (p : Place) → Moved L w (suc k) p → p.order ≡ end L k → Moved L w k (goto_with p p.order k None)
  moved_leave k p m q = record {
    ahead = m.ahead;
    from = λ j e. m.from j (old j e);
    upto = λ j e. m.upto j (old j e);
    done = λ j e l. let n = not_out p p.order k None j refl e in m.done j (old j e) (omega arith);
    stay = λ j a b. kept p p.order k None j (λ r. let u = rw r at b in omega arith) (m.stay j a b);
    todo = λ j a b l. kept p p.order k None j (λ r. omega arith) (m.todo j a b (omega arith));
    clear = m.clear;
  }
    where
      old : (j : ℕ) → Present (goto_with p p.order k None) j → Present p j
      old j e = was p p.order k None j e (not_out p p.order k None j refl e)

  due_again : (k : ℕ) (p : Place) (x : Rest) → Moved L w (suc k) p → p.order ≡ end L k → Present p k → Due L (goto_with p (start L k) k (Some x))
  due_again k p x m q e = let hk : Holds L k w = (m.from k e, omega (arith, m.ahead)) in record {
    holding = λ j a. tri j k
        (λ l. let b = was p (start L k) k (Some x) j a (λ r. omega arith) in
        let i = G.inside j k w l (m.from j b, omega (arith, m.ahead, m.upto j b)) hk in
        omega arith)
        (λ r. rw r (omega arith))
        (λ l. let b = was p (start L k) k (Some x) j a (λ r. omega arith) in
        let i = G.inside k j w l hk (m.from j b, omega (arith, m.ahead, m.upto j b)) in absurd (omega (arith, m.done j b l)));
    held = λ j a. tri j k
        (λ l. let i = G.inside j k (start L k) l a (omega arith) in kept p (start L k) k (Some x) j (λ r. omega arith)
        (m.todo j (omega arith) (omega arith) (omega arith)))
        (λ r. put_in p (start L k) k (Some x) j refl r)
        (λ l. let i = G.inside k j (start L k) l (omega arith) a in absurd (omega arith));
    low = G.low k w hk;
    high = omega (arith, G.high k w hk);
  }

  again_ok : (k : ℕ) (p : Place) (x : Rest) → Moved L w (suc k) p → Law L p h → p.order ≡ end L k → Present p k
      → Stood L w h (again k (goto_with p (start L k) k (Some x)))
  again_ok k p x m law q e = (due_again k p x m q e, law_begin L p h law k (Some x) (omega arith) (omega arith))

  look_ok : (k : ℕ) (p : Place) → Moved L w 0 p → p.order ≤ length L.fields → Law L p h
      → ((j : ℕ) → k ≤ j → j < length L.sets → arrives L p j ≡ false) → Stood L w h (look L k p)
  unfolding look
  look_ok zero p m u law f = (due_here L G w p m u (λ j. f j (omega arith)), law)
  look_ok (suc k) p m u law f = go (arrives L p k) refl (look_ok k p m u law)
    where
      go : (b : Bool) → arrives L p k ≡ b → (((j : ℕ) → k ≤ j → j < length L.sets → arrives L p j ≡ false) → Stood L w h (look L k p))
          → Stood L w h (look L (suc k) p)
      go true e rec = rw (e, look) (record { moved = m; high = u; law = law; arriving = arrives_e L p k e })
      go false e rec = rw (e, look) (rec (λ j a b. tri j k (λ l. absurd (omega arith)) (λ q. rw q e) (λ l. f j l b)))

  close_ok : (k : ℕ) (p : Place) → Moved L w k p → Law L p h → Stood L w h (close L k p)
  unfolding close
  close_ok zero p m law = go (ltb (length L.fields) p.order) refl
    where
      go : (b : Bool) → ltb (length L.fields) p.order ≡ b → Stood L w h (close L zero p)
      go true e = rw (e, close) tt
      go false e = rw (e, close) (look_ok (length L.sets) p m (ltb-false _ _ e) law (λ j a b. absurd (omega arith)))
  close_ok (suc k) p m law = go (eqb p.order (end L k)) (p.left k) refl refl (close_ok k)
    where
      go : (b : Bool) (x : Option Rest) → eqb p.order (end L k) ≡ b → p.left k ≡ x → ((q : Place) → Moved L w k q → Law L q h → Stood L w h (close L k q))
          → Stood L w h (close L (suc k) p)
      go false x e f rec = rw (e, close) (rec p (moved_stay k p m (λ a q. eqb-false _ _ e q)) law)
      go true None e f rec = rw (e, f, close) (rec p (moved_stay k p m (λ a q. false≢true (rw f at a))) law)
      go true (Some endless) e f rec = rw (e, f, close) (again_ok k p endless m law (eqb-true _ _ e) (rw f))
      go true (Some (more zero)) e f rec = rw (e, f, close) (rec _ (moved_leave k p m (eqb-true _ _ e)) (law_leave L p h law k))
      go true (Some (more (suc n))) e f rec = rw (e, f, close) (again_ok k p (more n) m law (eqb-true _ _ e) (rw f))

  pub stand_ok : (p : Place) → Moved L w (length L.sets) p → Law L p h → Stood L w h (stand L p)
  unfolding stand
  stand_ok = close_ok (length L.sets)

pub moved_first : (L : Layout) → Good L → Moved L 0 (length L.sets) first
moved_first L G = record {
  ahead = omega arith;
  from = λ j a. absurd (false≢true a);
  upto = λ j a. absurd (false≢true a);
  done = λ j a l. absurd (false≢true a);
  stay = λ j a b. absurd (omega (arith, G.low j 0 (omega arith)));
  todo = λ j a b l. absurd (omega (arith, G.low j 0 (omega arith)));
  clear = λ j a b. omega arith;
}

pub law_first : (L : Layout) → Law L first (record { made = []; begun = λ k. 0 })
unfolding visited
law_first L = record { fwd = λ t c. absurd (false≢true c.ever); bwd = λ t d. absurd (omega (arith, d.below)); early = λ k. omega arith }
