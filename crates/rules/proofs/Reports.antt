-- The findings in their buffer: eight numbers each from its start, and how many of them are errors.
use Rattle.std.specs.Prelude.{Result, Ok, Err, ◌==◌, if◌then◌else◌}
use Prim.Native.Nat.{ℕ, zero, suc, ◌+◌, ◌*◌, ◌≤◌, ◌<◌, min}
use native.Mathlib.Omega.{arith}
use native.Mathlib.Nat.{min-eq_left}
use mathlib.Core.Path.{◌≡◌, refl, sym, ap, ◌∙◌}
use mathlib.Core.Bool.{Bool, true, false}
use mathlib.Core.List.{List, [], ◌∷◌, ◌++◌}
use lib.ListN.{length, get_or, take, drop, length-append}
use lib.Seq.{sets, length-sets, take-append_seam}
use borrow.Author.Tests.{le-leb, lt-leb}
use Rattle.pack.specs.Notation.{◌≤ᵇ◌}
use Rattle.pack.specs.Load.{loaded, over, buffer_left, work_after}
use Rattle.pack.specs.Meaning.{pack_of}
use Rattle.pack.specs.declared.load.Index.{Index}
use Rattle.pack.specs.declared.load.Refusal.{Refusal}
use Rattle.pack.specs.declared.load.Refusal.TheVariants.{Findings}
use Rattle.pack.proofs.Stores.{sets_append, sets_over}
use Rattle.pack.proofs.Told.{told_after}
use Rattle.rules.specs.declared.Finding.{Finding}
use Rattle.rules.specs.Checked.{all_numbers, report_of, checked, findings_after, check_answer, findings_tell, check_tells, Checks}
use Rattle.rules.specs.Check.{check}
use Rattle.rules.specs.declared.check.Reported.{Reported}
use Rattle.rules.specs.Emit.{numbers, Found, none_in, stored, put_one, put_all}
use Rattle.rules.specs.Findings.{errors}
use Rattle.rules.specs.Search.{count_below}

stored_fits : (o : List ℕ) (n : ℕ) (f : Finding) → 8 * n + 8 ≤ length o → stored o n f ≡ sets o (8 * n) (numbers f)
unfolding stored
stored_fits o n f h = rw (le-leb (8 * n + 8) (length o) h)

one_more : (n : ℕ) → n + 1 ≤ 18446744073709551615 → min (n + 1) 18446744073709551615 ≡ n + 1
one_more n h = min-eq_left h

-- all are counted
pub counted : (fs : List Finding) (o : Found) → o.count + length fs ≤ 18446744073709551615 → (put_all o fs).count ≡ o.count + length fs
unfolding put_one
counted [] o h = omega arith
counted (f ∷ fs) o h =
    let e = one_more o.count (omega (arith, h)) in
    omega (arith, e, counted fs (put_one o f) (omega (arith, e, h)))

-- where all fit, they are stored one behind the other
put_fits : (fs : List Finding) (o : Found) → o.count + length fs ≤ 18446744073709551615 → 8 * (o.count + length fs) ≤ length o.numbers
    → (put_all o fs).numbers ≡ sets o.numbers (8 * o.count) (all_numbers fs)
unfolding put_one
put_fits [] o few h = refl
put_fits (f ∷ fs) o few h =
    let o₁ = sets o.numbers (8 * o.count) (numbers f) in
    let m = one_more o.count (omega (arith, few)) in
    let e : 8 * (o.count + 1) ≡ 8 * o.count + length (numbers f) = omega arith in
    let a : stored o.numbers o.count f ≡ o₁ = stored_fits o.numbers o.count f (omega (arith, h)) in
    let b : put_one o f ≡ record { numbers = o₁; count = o.count + 1 } = rw (a, m) in
    ap (λ (x : Found). (put_all x fs).numbers) b
    ∙ put_fits fs (record { numbers = o₁; count = o.count + 1 }) (omega (arith, few)) (omega (arith, h, length-sets o.numbers (8 * o.count) (numbers f)))
    ∙ ap (λ (k : ℕ). sets o₁ k (all_numbers fs)) e
    ∙ sym (sets_append o.numbers (8 * o.count) (numbers f) (all_numbers fs))

pub length_numbers : (fs : List Finding) → length (all_numbers fs) ≡ 8 * length fs
length_numbers [] = refl
length_numbers (f ∷ fs) = omega (arith, length-append (numbers f) (all_numbers fs), length_numbers fs)

pub all_stored : (fs : List Finding) (o : List ℕ) → length fs ≤ 18446744073709551615 → 8 * length fs ≤ length o
    → (put_all (none_in o) fs).numbers ≡ over (all_numbers fs) o
all_stored fs o few h = put_fits fs (none_in o) (omega (arith, few)) (omega (arith, h)) ∙ sets_over o (all_numbers fs) (omega (arith, h, length_numbers fs))

-- the short list begins with them, if it has room
pub put_front : (fs : List Finding) (o : List ℕ) → length fs ≤ 18446744073709551615 → 8 * length fs ≤ length o
    → take (8 * length fs) (put_all (none_in o) fs).numbers ≡ all_numbers fs
put_front fs o few h =
    let l : 8 * length fs ≡ length (all_numbers fs) = omega (arith, length_numbers fs) in
    rw (all_stored fs o few h, l) (take-append_seam (all_numbers fs) (drop (length (all_numbers fs)) o))

-- ---- errors

count_same : (p q : ℕ → Bool) → ((i : ℕ) → p i ≡ q i) → (n : ℕ) → count_below p n ≡ count_below q n
count_same p q e zero = refl
count_same p q e (suc n) = rw (e n, count_same p q e n)

count_first : (p : ℕ → Bool) (n : ℕ) → count_below p (suc n) ≡ (if p 0 then count_below (λ i. p (suc i)) n + 1 else count_below (λ i. p (suc i)) n)
count_first p zero = refl
count_first p (suc n) = go (p 0) refl (p (suc n)) (count_first p n)
  where
    go : (a : Bool) → p 0 ≡ a → (b : Bool)
        → count_below p (suc n) ≡ (if p 0 then count_below (λ i. p (suc i)) n + 1 else count_below (λ i. p (suc i)) n)
        → (if b then count_below p (suc n) + 1 else count_below p (suc n))
        ≡
        (if p 0 then (if b then count_below (λ i. p (suc i)) n + 1 else count_below (λ i. p (suc i)) n) + 1 else
        (if b then count_below (λ i. p (suc i)) n + 1 else count_below (λ i. p (suc i)) n))
    go true x true h = ap (λ (k : ℕ). k + 1) h ∙ (rw x)
    go true x false h = h ∙ (rw x)
    go false x true h = ap (λ (k : ℕ). k + 1) h ∙ (rw x)
    go false x false h = h ∙ (rw x)

-- finding i's severity is number 8 i + 1
pub errors_read : (fs : List Finding) (rest : List ℕ) → count_below (λ i. get_or (all_numbers fs ++ rest) (8 * i + 1) 0 == 1) (length fs) ≡ errors fs
errors_read [] rest = refl
errors_read (f ∷ fs) rest =
    let p : ℕ → Bool = λ i. get_or (all_numbers (f ∷ fs) ++ rest) (8 * i + 1) 0 == 1 in
    let q : ℕ → Bool = λ i. get_or (all_numbers fs ++ rest) (8 * i + 1) 0 == 1 in
    let shifted : (i : ℕ)
    → p (suc i) ≡ q i = λ i.
    (let e : 8 * suc i + 1 ≡ suc (suc (suc (suc (suc (suc (suc (suc (8 * i + 1))))))))
    = omega arith in ap (λ (k : ℕ). get_or (all_numbers (f ∷ fs) ++ rest) k 0 == 1) e) in
    count_first p (length fs)
    ∙ ap (λ (c : ℕ). if f.severity == 1 then c + 1 else c) (count_same (λ i. p (suc i)) q shifted (length fs) ∙ errors_read fs rest)

-- ---- the two ends of a report

pub record Judges (fs : List Finding) (o : List ℕ) (r : Result Reported Refusal) (o' : List ℕ) : Type 0 where
  pub answer : r ≡ report_of fs (length o)
  pub out : o' ≡ buffer_left (report_of fs (length o)) (all_numbers fs) o

pub buffer_short : (fs : List Finding) (o : List ℕ) (n : ℕ) → n ≡ length fs → length o < 8 * n → Judges fs o (Err (Findings (8 * n))) o
buffer_short fs o n e h =
    let t = lt-leb (8 * length fs) (length o) (omega arith) in
    record { answer = rw (e, t); out = rw t }

pub all_put : (fs : List Finding) (o o' : List ℕ) (n k : ℕ) → n ≡ length fs → 8 * n ≤ length o → o' ≡ over (all_numbers fs) o
    → k ≡ count_below (λ i. get_or o' (8 * i + 1) 0 == 1) n → Judges fs o (Ok (record { findings = n; errors = k })) o'
all_put fs o o' n k e h y c =
    let t = le-leb (8 * length fs) (length o) (omega arith) in
    let z : k ≡ errors fs = c ∙ (rw (y, e) (errors_read fs _)) in
    record { answer = (rw (t, z, e)); out = (rw t y) }

-- ---- and of the call

pub record Answers (s w o : List ℕ) (r : Result Reported Refusal) (o' : List ℕ) : Type 0 where
  pub answer : r ≡ checked s (length w) (length o)
  pub out : o' ≡ findings_after s (length w) o

pub not_loaded : (s w o : List ℕ) (q : Refusal) → loaded s (length w) ≡ Err q → Answers s w o (Err q) o
unfolding checked findings_after
not_loaded s w o q e = record { answer = rw e; out = rw e }

pub is_loaded : (s w o : List ℕ) (i : Index) {r : Result Reported Refusal} {o' : List ℕ} → loaded s (length w) ≡ Ok i
    → r ≡ report_of (check (pack_of s)) (length o) → o' ≡ buffer_left (report_of (check (pack_of s)) (length o)) (all_numbers (check (pack_of s))) o
    → Answers s w o r o'
unfolding checked findings_after
is_loaded s w o i e x y = record { answer = rw e x; out = rw e y }

report_told : (fs : List Finding) (n : ℕ) → check_answer (report_of fs n) ≡ findings_tell fs n
report_told fs n = go (8 * length fs ≤ᵇ n) refl
  where
    go : (b : Bool) → (8 * length fs ≤ᵇ n) ≡ b → check_answer (report_of fs n) ≡ findings_tell fs n
    go true e = rw e
    go false e = rw e

check_told : (s : List ℕ) (m n : ℕ) → check_answer (checked s m n) ≡ check_tells s m n
unfolding checked check_tells
check_told s m n = told_after _ s m _ _ (report_told (check (pack_of s)) n)

pub promised : (s w o w' o' : List ℕ) (r : Result Reported Refusal) → Answers s w o r o' → w' ≡ work_after s w → Checks s w o w' o' r
promised s w o w' o' r a e =
    record { answer = a.answer; told = ap check_answer a.answer ∙ check_told s (length w) (length o); work = e; findings = a.out }
