-- Laws of a text put into a buffer: one behind another, and a text that a number of 64 bits counts.
use Prim.Native.Nat.{ℕ, suc, ◌+◌, ◌≤◌, min}
use native.Mathlib.Omega.{arith}
use mathlib.Core.Path.{◌≡◌, ap, ◌∙◌}
use mathlib.Core.List.{List, [], ◌∷◌, ◌++◌, foldl-append}
use lib.ListN.{length, set}
use Rattle.pack.specs.Placing.{Stored}
use Rattle.pack.specs.Value.{Bytes}
use Rattle.std.proofs.lemmas.List.Edits.{sets}
use Rattle.rules.specs.TextOut.{Written, put_byte, put_text, nothing_in, Puts}
use Rattle.rules.specs.declared.text_out.TextOut.{TextOut}

pub puts_append : {o o' o'' : TextOut} {xs ys : Bytes} → Puts o xs o' → Puts o' ys o'' → Puts o (xs ++ ys) o''
puts_append {o} {xs = xs} {ys = ys} p q =
    record { written = q.written ∙ (rw (p.written, foldl-append put_byte)); same = q.same ∙ p.same }

put_exact : (w : List ℕ) (n : ℕ) (text : Bytes) → n + length text ≤ 18446744073709551615
    → put_text (record { bytes = w; count = n }) text ≡ record { bytes = sets w n text; count = n + length text }
unfolding put_byte
put_exact w n [] h = let e : n + 0 ≡ n = omega arith in rw e
put_exact w n (b ∷ text) h =
    let one : min (n + 1) 18446744073709551615 ≡ suc n = omega arith in
    let more : n + suc (length text) ≡ suc n + length text = omega arith in
    rw (one, more) (put_exact (set w n b) (suc n) text (omega arith))

pub put_stored : (w : List ℕ) (text w' : Bytes) (n : ℕ) → length text ≤ 18446744073709551615
    → record { bytes = w'; count = n } ≡ put_text (nothing_in w) text → Stored w 0 text w' n
put_stored w text w' n h e =
    let x = e ∙ put_exact w 0 text (omega arith) in
    record { count = ap (λ (t : Written). t.count) x; work = ap (λ (t : Written). t.bytes) x }
