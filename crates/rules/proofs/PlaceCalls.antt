-- The ends of the place text call.
-- answer and text buffer, of a text that may be in the pack
use Prim.Native.Nat.{ℕ, ◌+◌, ◌≤◌, ◌<◌}
use native.Mathlib.Omega.{arith}
use mathlib.Core.Path.{◌≡◌, refl, ap, ◌∙◌}
use mathlib.Core.Bool.{Bool, true, false}
use mathlib.Core.List.{List, [], ◌∷◌, ◌++◌}
use Rattle.std.specs.Prelude.{Option, None, Some, Result, Ok, Err}
use lib.ListN.{length}
use borrow.Author.Tests.{le-leb, lt-leb}
use Rattle.pack.specs.Notation.{◌≤ᵇ◌}
use Rattle.pack.specs.Load.{loaded, work_after}
use Rattle.pack.specs.Meaning.{pack_of}
use Rattle.pack.specs.Placing.{Stored}
use Rattle.pack.specs.Value.{Bytes}
use Rattle.pack.specs.declared.load.Index.{Index}
use Rattle.pack.specs.declared.load.Refusal.{Refusal}
use Rattle.pack.specs.declared.load.Refusal.TheVariants.{Absent, Place}
use Rattle.pack.proofs.Stores.{sets_over}
use Rattle.pack.proofs.Told.{told_after}
use Rattle.rules.specs.PlaceCall.{named, placed, text_left, text_after, place_answer, text_tells, place_tells, Places}
use Rattle.rules.specs.PlaceText.{place_text}

-- over an empty part of a buffer nothing is written, and the buffer is what it was
pub empty_part : (p o : List ℕ) → length p ≡ 0 → p ++ o ≡ o
empty_part [] o e = refl
empty_part (x ∷ p) o e = absurd (omega arith)

pub record Named (o : Option Bytes) (w : List ℕ) (r : Result ℕ Refusal) (w' : List ℕ) : Type 0 where
  pub answer : r ≡ named o (length w)
  pub text : w' ≡ text_left (named o (length w)) o w

module _ (o : Option Bytes) (w : List ℕ) where
  pub not_there : None ≡ o → Named o w (Err Absent) w
  not_there e = rw (← e) (record { answer = refl; text = refl })

  module _ (x : Bytes) (e : Some x ≡ o) where
    pub too_short : (n : ℕ) → n ≡ 0 + length x → length w < n → Named o w (Err (Place n)) w
    too_short n c l =
        let k : n ≡ length x = omega arith in
        rw (← e, k) (record { answer = (rw (lt-leb (length x) (length w) (omega arith))); text = (rw (lt-leb (length x) (length w) (omega arith))) })

    pub all_written : (n : ℕ) → n ≡ 0 + length x → n ≤ length w → (w' : List ℕ) (m : ℕ) → Stored w 0 x w' m → Named o w (Ok n) w'
    all_written n c l w' m a =
        let k : n ≡ length x = omega arith in
        rw (← e, k)
        (record {
          answer = (rw (le-leb (length x) (length w) (omega arith)));
          text = (rw (le-leb (length x) (length w) (omega arith)) (a.work ∙ sets_over w x (omega arith)));
        })

-- answer and text buffer of the call
pub record Answered (s : List ℕ) (m place t item : ℕ) (w : List ℕ) (r : Result ℕ Refusal) (w' : List ℕ) : Type 0 where
  pub answer : r ≡ placed s m place t item (length w)
  pub text : w' ≡ text_after s m place t item w

module _ (s : List ℕ) (m place t item : ℕ) (w : List ℕ) where
  pub not_loaded : (r : Refusal) → loaded s m ≡ Err r → Answered s m place t item w (Err r) w
  unfolding placed text_after
  not_loaded r e = record { answer = (rw e); text = (rw e) }

  pub is_loaded : (i : Index) → loaded s m ≡ Ok i → (r : Result ℕ Refusal) (w' : List ℕ) → r ≡ named (place_text (pack_of s) place t item) (length w)
      → w' ≡ text_left (named (place_text (pack_of s) place t item) (length w)) (place_text (pack_of s) place t item) w → Answered s m place t item w r w'
  unfolding placed text_after
  is_loaded i e r w' a b = record { answer = (rw e a); text = (rw e b) }

named_told : (o : Option Bytes) (n : ℕ) → place_answer (named o n) ≡ text_tells o n
named_told None n = refl
named_told (Some b) n = go (length b ≤ᵇ n) refl
  where
    go : (t : Bool) → (length b ≤ᵇ n) ≡ t → place_answer (named (Some b) n) ≡ text_tells (Some b) n
    go true e = rw e
    go false e = rw e

place_told : (s : List ℕ) (m place t item n : ℕ) → place_answer (placed s m place t item n) ≡ place_tells s m place t item n
unfolding placed place_tells
place_told s m place t item n = told_after _ s m _ _ (named_told (place_text (pack_of s) place t item) n)

pub promised : (s : List ℕ) (place t item : ℕ) (w o w' o' : List ℕ) (r : Result ℕ Refusal) → Answered s (length w) place t item o r o' → w' ≡ work_after s w
    → Places s place t item w o w' o' r
promised s place t item w o w' o' r a e =
    record {
      answer = a.answer;
      told = ap place_answer a.answer ∙ place_told s (length w) place t item (length o);
      work = e;
      text = a.text;
    }
