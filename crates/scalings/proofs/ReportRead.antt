-- The findings read back from their buffer: a report has a cause exactly if `check` finds it.
use Rattle.std.specs.Prelude.{Result, Ok, Err, ◌==◌}
use Prim.Native.Nat.{ℕ, zero, suc, ◌+◌, ◌*◌, ◌≤◌}
use native.Mathlib.Omega.{arith}
use mathlib.Core.Bool.{Bool, true, false, ◌&&◌, ◌||◌, false≢true}
use mathlib.Core.List.{List, [], ◌∷◌, ◌++◌}
use mathlib.Core.Path.{◌≡◌, refl, sym, ap, ◌∙◌}
use lib.ListN.{length, get_or, drop}
use borrow.Author.Tests.{leb-true, eq-eqb, not-true, not-false}
use Rattle.pack.specs.Notation.{◌≤ᵇ◌}
use Rattle.pack.specs.Load.{Answer, refusal_number, loaded}
use Rattle.pack.specs.Meaning.{pack_of}
use Rattle.pack.specs.Value.{Pack}
use Rattle.pack.specs.declared.load.Index.{Index}
use Rattle.pack.specs.declared.load.Refusal.{Refusal}
use Rattle.pack.proofs.Told.{numbered, after_refused, after_accepted}
use Rattle.rules.specs.declared.Finding.{Finding}
use Rattle.rules.specs.declared.check.Reported.{Reported}
use Rattle.rules.specs.Check.{check}
use Rattle.rules.specs.Checked.{all_numbers, report_of, checked, findings_after, findings_tell, check_tells, Checks}
use Rattle.rules.specs.Findings.{errors}
use Rattle.rules.specs.Search.{any_below}
use Rattle.scalings.specs.Scalings.{has_cause}
use Rattle.scalings.specs.Report.{finding_is, reports, Concludes, Room, silent, Says}
use Rattle.scalings.proofs.Silent42.{silent_42, by_rule, met_unlike}

any_first : (p : ℕ → Bool) (n : ℕ) → any_below p (suc n) ≡ (p 0 || any_below (λ i. p (suc i)) n)
any_first p zero = go (p 0)
  where
    go : (b : Bool) → b ≡ (b || false)
    go true = refl
    go false = refl
any_first p (suc n) = ap (λ (b : Bool). b || p (suc n)) (any_first p n) ∙ go (p 0)
  where
    go : (b : Bool) → (b || any_below (λ i. p (suc i)) n || p (suc n)) ≡ (b || (any_below (λ i. p (suc i)) n || p (suc n)))
    go true = refl
    go false = refl

any_same : (p q : ℕ → Bool) → ((i : ℕ) → p i ≡ q i) → (n : ℕ) → any_below p n ≡ any_below q n
any_same p q e n = ap (λ (r : ℕ → Bool). any_below r n) (λ j i. e i j)

-- eight numbers further on stands the next finding
pub causes_read : (rule cause : ℕ) (fs : List Finding) (rest : List ℕ) → reports rule cause (length fs) (all_numbers fs ++ rest) ≡ has_cause rule cause fs
causes_read rule cause [] rest = refl
causes_read rule cause (f ∷ fs) rest =
    let o = all_numbers (f ∷ fs) ++ rest in
    let p = finding_is rule cause o in
    let next : (i : ℕ) → p (suc i) ≡ finding_is rule cause (all_numbers fs ++ rest) i = λ i.
    (let a : 8 * suc i ≡ suc (suc (suc (suc (suc (suc (suc (suc (8 * i)))))))) = omega arith in
    let b : 8 * suc i + 2 ≡ suc (suc (suc (suc (suc (suc (suc (suc (8 * i + 2)))))))) = omega arith in
    λ j. (get_or o (a j) 0 == rule) && (get_or o (b j) 0 == cause)) in
    any_first p (length fs)
    ∙ ap (λ (b : Bool). (f.rule == rule) && (f.cause == cause) || b) (any_same (λ i. p (suc i)) _ next (length fs) ∙ causes_read rule cause fs rest)

-- ---- check's answer

abbrev count : Result Reported Refusal → ℕ
count (Err r) = 0
count (Ok x) = x.findings

abbrev is_report : Result Reported Refusal → Bool
is_report (Err r) = false
is_report (Ok x) = true

-- a report counts the findings, and the buffer holds them
pub record Whole (P : Pack) (n m : ℕ) : Type 0 where
  pub counted : n ≡ length (check P)
  pub room : 8 * n ≤ m

report_of_whole : (P : Pack) (m : ℕ) (r : Reported) → report_of (check P) m ≡ Ok r → Whole P r.findings m
report_of_whole P m r h = go (8 * length (check P) ≤ᵇ m) refl
  where
    go : (b : Bool) → (8 * length (check P) ≤ᵇ m) ≡ b → Whole P r.findings m
    go true x =
        let c : length (check P) ≡ r.findings = ap count (rw x at h) in
        record { counted = sym c; room = omega (arith, leb-true (8 * length (check P)) m x) }
    go false x = absurd (false≢true (ap is_report (rw x at h)))

report_whole : (s : List ℕ) (m k : ℕ) (r : Reported) → checked s m k ≡ Ok r → Whole (pack_of s) r.findings k
unfolding checked
report_whole s m k r h = go (loaded s m) refl
  where
    go : (l : Result Index Refusal) → loaded s m ≡ l → Whole (pack_of s) r.findings k
    go (Err q) x = absurd (false≢true (ap is_report (rw x at h)))
    go (Ok i) x = report_of_whole (pack_of s) k r (rw x at h)

-- the report has a cause exactly if check finds it
report_read : (rule cause : ℕ) (s : List ℕ) (m : ℕ) (o : List ℕ) (r : Reported) → checked s m (length o) ≡ Ok r
    → reports rule cause r.findings (findings_after s m o) ≡ has_cause rule cause (check (pack_of s))
unfolding findings_after
report_read rule cause s m o r h =
    rw (h, (report_whole s m (length o) r h).counted) (causes_read rule cause (check (pack_of s)) (drop (length (all_numbers (check (pack_of s)))) o))

-- ---- what its reader may conclude

-- of a report that has the cause exactly if check finds it
concludes : (P : Pack) (n : ℕ) (o : List ℕ) → reports 42 3 n o ≡ has_cause 42 3 (check P) → Concludes P n o
concludes P n o e =
    let s = (silent_42 P).of_check in
    record {
      silent = (λ h. s.0 (sym e ∙ h), λ all. e ∙ s.1 all);
      found = λ h. met_unlike P (sym (by_rule P 3) ∙ sym e ∙ h);
    }

pub by_answer : (s w o w' o' : List ℕ) (r : Reported) → Checks s w o w' o' (Ok r) → Concludes (pack_of s) r.findings o'
by_answer s w o w' o' r c =
    concludes (pack_of s) r.findings o'
    (ap (reports 42 3 r.findings) c.findings ∙ report_read 42 3 s (length w) o r (sym c.answer))

-- of the call's answer
pub answer_room : (s w o w' o' : List ℕ) (r : Result Reported Refusal) → Checks s w o w' o' r → Room r (length o)
answer_room s w o w' o' (Err r) c = tt
answer_room s w o w' o' (Ok r) c = (report_whole s (length w) (length o) r (sym c.answer)).room

pub answer_says : (s w o w' o' : List ℕ) (r : Result Reported Refusal) → Checks s w o w' o' r → Says (pack_of s) r (silent r o')
answer_says s w o w' o' (Err r) c = refl
answer_says s w o w' o' (Ok r) c =
    let a = by_answer s w o w' o' r c in
    (λ h. a.silent.0 (not-true (reports 42 3 r.findings o') h), λ h. a.found (not-false (reports 42 3 r.findings o') h))

-- ---- in 01's numbers, as the exported call tells them

-- where the pack is not loaded the number is not 0
not_done : (s : List ℕ) (m n : ℕ) (r : Refusal) → loaded s m ≡ Err r → (check_tells s m n).number ≡ 0 → ⊥
unfolding check_tells
not_done s m n r x h =
    let z : refusal_number r ≡ 0 = ap (λ (a : Answer). a.number) (after_refused s m r x (findings_tell (check (pack_of s)) n)) ∙ h in
    false≢true (sym (numbered s m r x) ∙ eq-eqb (refusal_number r) 0 z)

-- where it is 0, check's answer is a report, and the first value counts its findings
done : (s : List ℕ) (m n : ℕ) → (check_tells s m n).number ≡ 0
    → checked s m n ≡ Ok (record { findings = get_or (check_tells s m n).values 0 0; errors = errors (check (pack_of s)) })
unfolding checked check_tells
done s m n h = go (loaded s m) refl (8 * length (check (pack_of s)) ≤ᵇ n) refl
  where
    fs : List Finding
    fs = check (pack_of s)

    go : (l : Result Index Refusal) → loaded s m ≡ l → (b : Bool) → (8 * length fs ≤ᵇ n) ≡ b
        → checked s m n ≡ Ok (record { findings = get_or (check_tells s m n).values 0 0; errors = errors fs })
    go (Err r) x b y = absurd (not_done s m n r x h)
    go (Ok i) x true y = let t = after_accepted s m i x (findings_tell fs n) in rw (← t, x, y)
    go (Ok i) x false y =
        let t = after_accepted s m i x (findings_tell fs n) in
        let z : ◌≡◌ {A = ℕ} 22 0 = rw (← t, y) at h in
        absurd (omega (arith, z))

pub by_numbers : (s : List ℕ) (m : ℕ) (o : List ℕ) → (check_tells s m (length o)).number ≡ 0
    → Concludes (pack_of s) (get_or (check_tells s m (length o)).values 0 0) (findings_after s m o)
by_numbers s m o h =
    concludes (pack_of s) _ (findings_after s m o) (report_read 42 3 s m o _ (done s m (length o) h))
