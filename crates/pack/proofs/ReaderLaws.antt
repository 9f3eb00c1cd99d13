-- How methods of the reader are put together: what a chain of items promises, and where a `?` leaves it.
use Rattle.std.specs.Result.{IsErrAnd, result_ok, result_err}
use Rattle.std.proofs.lemmas.Result.{err_from_is_err_and}
use Rattle.std.proofs.lemmas.Option.{none-some, same_Some}
use Rattle.std.specs.Prelude.{ℕ, ◌≡◌, List, Result, Ok, Err, true, false, Bool, ◌==◌}
use mathlib.Core.Path.{refl, ap, ◌∙◌, sym}
use borrow.Author.Tests.{eqb-true, eqb-false}
use Rattle.pack.specs.declared.reader.Reader.{Reader}
use Rattle.pack.specs.declared.reader.InputRefusal.{InputRefusal}
use Rattle.pack.specs.Items.{Cursor, Item, Form, fresh, ◌▷◌, give}
use Rattle.pack.specs.Reads.{refusal_of, outcome, Reads, item_of, Gives}

-- from a refused cursor nothing is read
pub record Sticks {A : Type 0} (p : Form A) : Type 0 where
  pub stays : (s : List ℕ) (c : Cursor) → (c.refused == 0) ≡ false → (p s c).next ≡ c

pub done : {A : Type 0} (c : Reader) (v : A) → Reads c (give v) (Ok v) c
unfolding give
done c v = record { bytes = refl; answer = refl; at = λ z. refl }

pub Ok-Err : {T E : Type 0} (v : T) (e : E) → ◌≡◌ {A = Result T E} (Ok v) (Err e) → ⊥
Ok-Err v e h = none-some v (sym (ap result_ok h))

pub same_Ok : {T E : Type 0} (v w : T) → ◌≡◌ {A = Result T E} (Ok v) (Ok w) → v ≡ w
same_Ok v w h = same_Some v w (ap result_ok h)

same_Err : {T E : Type 0} (v w : E) → ◌≡◌ {A = Result T E} (Err v) (Err w) → v ≡ w
same_Err v w h = same_Some v w (ap result_err h)

-- what was read where the answer is no error
pub outcome_ok : {A : Type 0} (i : Item A) (v : A) → Ok v ≡ outcome i → (i.next.refused ≡ 0) × (i.value ≡ v)
outcome_ok {A} i v e = go (i.next.refused == 0) refl
  where
    go : (b : Bool) → (i.next.refused == 0) ≡ b → (i.next.refused ≡ 0) × (i.value ≡ v)
    go true x = let y : ◌≡◌ {A = Result A InputRefusal} (Ok v) (Ok i.value) = rw x at e in (eqb-true _ _ x, sym (same_Ok _ _ y))
    go false x = let y : ◌≡◌ {A = Result A InputRefusal} (Ok v) (Err (refusal_of i.next)) = rw x at e in absurd (Ok-Err _ _ y)

pub outcome_err : {A : Type 0} (i : Item A) (e : InputRefusal) → Err e ≡ outcome i
    → ((i.next.refused == 0) ≡ false) × (e ≡ refusal_of i.next)
outcome_err {A} i e h = go (i.next.refused == 0) refl
  where
    go : (b : Bool) → (i.next.refused == 0) ≡ b → ((i.next.refused == 0) ≡ false) × (e ≡ refusal_of i.next)
    go true x = let y : ◌≡◌ {A = Result A InputRefusal} (Err e) (Ok i.value) = rw x at h in absurd (Ok-Err _ _ (sym y))
    go false x = let y : ◌≡◌ {A = Result A InputRefusal} (Err e) (Err (refusal_of i.next)) = rw x at h in (x, same_Err _ _ y)

pub cursor_is : (k : Cursor) (at : ℕ) → k.refused ≡ 0 → at ≡ k.at → fresh at ≡ k
cursor_is k at z e = rw (e, ← z) refl

module _ {A B : Type 0} (p : Form A) (q : A → Form B) where
  run : (s : List ℕ) (k : Cursor) → (p ▷ q) s k ≡ q (p s k).value s (p s k).next
  unfolding ◌▷◌
  run s k = refl

  pub reads_then : {c d e : Reader} {v : A} {t : Result B InputRefusal} → Reads c p (Ok v) d → Reads d (q v) t e → Reads c (p ▷ q) t e
  reads_then {c} {d} {e} {v} {t} a b =
      let i = p c.bytes.now (fresh c.at) in
      let o = outcome_ok i v a.answer in
      let k : fresh d.at ≡ i.next = cursor_is i.next d.at o.0 (a.at o.0) in
      let x : (p ▷ q) c.bytes.now (fresh c.at) ≡ q v d.bytes.now (fresh d.at) = run c.bytes.now (fresh c.at) ∙ (rw (o.1, ← k, a.bytes) refl) in
      record { bytes = b.bytes ∙ a.bytes; answer = rw x b.answer; at = rw x b.at }

  pub reads_stop : {c d : Reader} {f : InputRefusal} → Reads c p (Err f) d → ((v : A) → Sticks (q v)) → Reads c (p ▷ q) (Err f) d
  reads_stop {c} {d} {f} a k =
      let i = p c.bytes.now (fresh c.at) in
      let o = outcome_err i f a.answer in
      let z : ((p ▷ q) c.bytes.now (fresh c.at)).next ≡ i.next = ap (λ (x : Item B). x.next) (run c.bytes.now (fresh c.at))
      ∙ (k i.value).stays c.bytes.now i.next o.0 in
      record {
        bytes = a.bytes;
        answer = rw (z, o.0, o.1) refl;
        at = λ w. absurd (eqb-false _ _ o.0 (rw (← z) w));
      }

  pub sticks_then : Sticks p → ((v : A) → Sticks (q v)) → Sticks (p ▷ q)
  sticks_then a b = record {
    stays = λ s c h. (let e = a.stays s c h in ap (λ (x : Item B). x.next) (run s c)
        ∙ (b (p s c).value).stays s (p s c).next (rw e h) ∙ e);
  }

pub sticks_give : {A : Type 0} (v : A) → Sticks (give v)
unfolding give
sticks_give v = record { stays = λ s c h. refl }

-- where a `?` returns, with no reader behind it
pub out : {A : Type 0} {c d : Reader} {form : Form A} {f : InputRefusal} (r : Result (A × Reader) InputRefusal) → IsErrAnd r (λ y. y ≡ f)
    → Reads c form (Err f) d → Gives c form r
out {A} {c} {d} {form} {f} r e h =
    let x = err_from_is_err_and {Q = λ y. y ≡ f} r e in
    let o = outcome_err (form c.bytes.now (fresh c.at)) f h.answer in
    rw (x.1, x.2) (record { bytes = refl; answer = h.answer; at = λ w. absurd (eqb-false _ _ o.0 w) })

-- an answer whose item is known
pub none_there : {A : Type 0} (q : Result (A × Reader) InputRefusal) (v : A) → item_of q ≡ Ok v → ((x : A × Reader) → q ≡ Ok x → ⊥) → ⊥
none_there (Ok x) v h n = n x refl
none_there (Err e) v h n = Ok-Err v e (sym h)
