-- Laws of the numbers stored into a buffer one after the other.
use Prim.Native.Nat.{ℕ, suc, ◌+◌, ◌%◌, ◌≤◌, ◌<◌}
use Rattle.std.specs.Prelude.{min}
use native.Mathlib.Omega.{arith}
use mathlib.Core.Path.{◌≡◌, refl, ◌∙◌, sym}
use mathlib.Core.List.{List, [], ◌∷◌, ◌++◌}
use lib.ListN.{length, get_or, set, take, drop, length-append}
use lib.Seq.{sets, sets-eq, take-append_seam}
use Rattle.pack.specs.Load.{over}
use Rattle.pack.specs.Placing.{Stored, Placed, put_one, put_all, Put}
use Rattle.pack.specs.declared.load.Offsets.{Offsets}

pub sets_append : (w : List ℕ) (p : ℕ) (xs ys : List ℕ) → sets w p (xs ++ ys) ≡ sets (sets w p xs) (p + length xs) ys
sets_append w p [] ys = let e : p + 0 ≡ p = omega arith in rw e
sets_append w p (x ∷ xs) ys = let e : p + suc (length xs) ≡ suc p + length xs = omega arith in rw e (sets_append (set w p x) (suc p) xs ys)

pub stored_none : (w : List ℕ) (p : ℕ) → Stored w p [] w p
stored_none w p = record { count = omega arith; work = refl }

module _ {w : List ℕ} {p : ℕ} {xs w' : List ℕ} {q : ℕ} (a : Stored w p xs w' q) where
  -- more numbers behind them
  pub stored_append : {ys w'' : List ℕ} {r : ℕ} → Stored w' q ys w'' r → Stored w p (xs ++ ys) w'' r
  stored_append {ys} {w''} {r} b =
      record {
        count = omega (arith, length-append xs ys, a.count, b.count);
        work = b.work ∙ (rw (a.count, a.work) (sym (sets_append w p xs ys)));
      }

  pub stored_one : (x : ℕ) → Stored w p (xs ++ x ∷ []) (set w' q x) (q + 1)
  stored_one x = stored_append (record { count = refl; work = refl })

-- stored from the beginning, with room for all
pub sets_over : (w xs : List ℕ) → length xs ≤ length w → sets w 0 xs ≡ over xs w
sets_over w xs h = sets-eq xs w 0 (omega arith) ∙ (let e : 0 + length xs ≡ length xs = omega arith in rw e)

-- what was stored from the beginning, taken back
pub take_stored : (w xs : List ℕ) → length xs ≤ length w → take (length xs) (sets w 0 xs) ≡ xs
take_stored w xs h = rw (sets_over w xs h) (take-append_seam xs (drop (length xs) w))

-- ---- offsets put

put_all_append : (o : Placed) (xs ys : List ℕ) → put_all o (xs ++ ys) ≡ put_all (put_all o xs) ys
put_all_append o [] ys = refl
put_all_append o (x ∷ xs) ys = put_all_append (put_one o x) xs ys

pub put_none : (o : Offsets) → Put o [] o
put_none o = record { placed = refl; same = refl }

pub put_append : {o o' o'' : Offsets} {xs ys : List ℕ} → Put o xs o' → Put o' ys o'' → Put o (xs ++ ys) o''
put_append {o} {xs = xs} {ys = ys} p q = record { placed = q.placed ∙ (rw (p.placed, put_all_append)); same = q.same ∙ p.same }

-- Few offsets are all counted, and stored where they are.
pub put_count : (xs : List ℕ) (o : Placed) → o.count + length xs < 18446744073709551616 → (put_all o xs).count ≡ o.count + length xs
unfolding put_one
put_count [] o h = omega arith
put_count (x ∷ xs) o h =
    let m : min (o.count + 1) 18446744073709551615 ≡ o.count + 1 = omega arith in
    put_count xs (put_one o x) (omega (arith, m)) ∙ (omega (arith, m))

pub put_stored : (xs : List ℕ) (o : Placed) → ((k : ℕ) → get_or xs k 0 < 4294967296) → o.count + length xs < 18446744073709551616
    → (put_all o xs).work ≡ sets o.work o.count xs
unfolding put_one
put_stored [] o b h = refl
put_stored (x ∷ xs) o b h =
    let m : min (o.count + 1) 18446744073709551615 ≡ suc o.count = omega arith in
    let n : x % 4294967296 ≡ x = omega (arith, b 0) in
    put_stored xs (put_one o x) (λ k. b (suc k)) (omega (arith, m)) ∙ (rw (m, n))
