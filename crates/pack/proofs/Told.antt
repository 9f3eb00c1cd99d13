-- What `load` answers, in 01's numbers; and what a call that goes on after it tells.
use Rattle.std.specs.Prelude.{Result, Ok, Err}
use Rattle.std.specs.Prelude.{◌==◌}
use Prim.Native.Nat.{ℕ, zero, suc, ◌≤◌}
use native.Mathlib.Omega.{arith}
use mathlib.Core.Path.{◌≡◌, refl, sym, ap, ◌∙◌}
use mathlib.Core.Bool.{Bool, true, false, true≢false}
use mathlib.Core.List.{List}
use lib.ListN.{length}
use Rattle.pack.specs.Notation.{◌<ᵇ◌, ◌≤ᵇ◌}
use Rattle.pack.specs.Format.{pack_end, offsets}
use Rattle.pack.specs.Load.{Answer, refusal_answer, after, in_numbers, load_answer, after_load, most_bytes, verdict, load_index}
use Rattle.pack.specs.Load.{loaded, load_tells, work_after, Loads}
use Rattle.pack.specs.Load.{refusal_number, fault_number}
use Rattle.pack.specs.Reads.{fault_of}
use Rattle.pack.proofs.Bounds.{input_bound}
use Rattle.pack.specs.declared.load.Index.{Index}
use Rattle.pack.specs.declared.load.Refusal.{Refusal}

-- each of the eight numbers names a fault
pub fault_numbered : (n : ℕ) → (n == 0) ≡ false → n ≤ 8 → fault_number (fault_of n) ≡ n
fault_numbered zero h l = absurd (true≢false h)
fault_numbered (suc zero) h l = refl
fault_numbered (suc (suc zero)) h l = refl
fault_numbered (suc (suc (suc zero))) h l = refl
fault_numbered (suc (suc (suc (suc zero)))) h l = refl
fault_numbered (suc (suc (suc (suc (suc zero))))) h l = refl
fault_numbered (suc (suc (suc (suc (suc (suc zero)))))) h l = refl
fault_numbered (suc (suc (suc (suc (suc (suc (suc zero))))))) h l = refl
fault_numbered (suc (suc (suc (suc (suc (suc (suc (suc zero)))))))) h l = refl
fault_numbered (suc (suc (suc (suc (suc (suc (suc (suc (suc n))))))))) h l = absurd (omega (arith, l))

pub load_told : (s : List ℕ) (m : ℕ) → load_answer (loaded s m) ≡ load_tells s m
unfolding loaded verdict load_index load_tells
load_told s m = go (most_bytes <ᵇ length s) refl ((pack_end s).refused == 0) refl (length (offsets s) ≤ᵇ m) refl
  where
    go : (a : Bool) → (most_bytes <ᵇ length s) ≡ a → (b : Bool) → ((pack_end s).refused == 0) ≡ b → (c : Bool) → (length (offsets s) ≤ᵇ m) ≡ c
        → load_answer (loaded s m) ≡ load_tells s m
    go true x b y c z = rw x
    go false x false y c z = rw (x, y, fault_numbered (pack_end s).refused y (input_bound s).0)
    go false x true y true z = rw (x, y, z)
    go false x true y false z = rw (x, y, z)

-- what `load` answers and leaves, with the numbers
pub promised : (s w w' : List ℕ) (r : Result Index Refusal) → r ≡ loaded s (length w) → w' ≡ work_after s w → Loads s w w' r
promised s w w' r e f = record { answer = e; told = ap load_answer e ∙ load_told s (length w); work = f }

-- a refusal's number is not 0
pub numbered : (s : List ℕ) (m : ℕ) (r : Refusal) → loaded s m ≡ Err r → (refusal_number r == 0) ≡ false
unfolding loaded verdict load_index
numbered s m r e = go (most_bytes <ᵇ length s) refl ((pack_end s).refused == 0) refl (length (offsets s) ≤ᵇ m) refl
  where
    number_of : Result Index Refusal → ℕ
    number_of (Err q) = refusal_number q
    number_of (Ok i) = 1

    back : (n : ℕ) → number_of (loaded s m) ≡ n → (n == 0) ≡ false → (refusal_number r == 0) ≡ false
    back n f z = ap (λ k. k == 0) (sym (ap number_of e) ∙ f) ∙ z

    go : (a : Bool) → (most_bytes <ᵇ length s) ≡ a → (b : Bool) → ((pack_end s).refused == 0) ≡ b → (c : Bool) → (length (offsets s) ≤ᵇ m) ≡ c
        → (refusal_number r == 0) ≡ false
    go true x b y c z = back 9 (rw x) refl
    go false x false y c z = back (pack_end s).refused (rw (x, y, fault_numbered (pack_end s).refused y (input_bound s).0)) y
    go false x true y true z = back 1 (rw (x, y, z)) refl
    go false x true y false z = back 21 (rw (x, y, z)) refl

pub after_refused : (s : List ℕ) (m : ℕ) (r : Refusal) → loaded s m ≡ Err r → (rest : Answer) → refusal_answer r ≡ after (load_tells s m) rest
after_refused s m r e rest = rw (← load_told s m, e, numbered s m r e)

pub after_accepted : (s : List ℕ) (m : ℕ) (i : Index) → loaded s m ≡ Ok i → (rest : Answer) → rest ≡ after (load_tells s m) rest
after_accepted s m i e rest = rw (← load_told s m, e)

-- a call that goes on after its load tells in numbers what the rest of it does
pub told_after : {T : Type 0} (values : T → List ℕ) (s : List ℕ) (m : ℕ) (rest : Result T Refusal) (tells : Answer) → in_numbers values rest ≡ tells
    → in_numbers values (after_load (loaded s m) rest) ≡ after (load_tells s m) tells
told_after {T} values s m rest tells e = go (loaded s m) refl
  where
    go : (l : Result Index Refusal) → loaded s m ≡ l → in_numbers values (after_load l rest) ≡ after (load_tells s m) tells
    go (Err r) l = after_refused s m r l tells
    go (Ok i) l = e ∙ after_accepted s m i l tells
