-- Laws of place texts: the prefix's two definitions, and how long the pieces are.
use Prim.Native.Nat.{ℕ, zero, suc, ◌+◌, ◌-◌, ◌≤◌}
use native.Mathlib.Omega.{arith}
use mathlib.Core.List.{List, ◌++◌}
use mathlib.Core.Path.{◌≡◌, refl, ap, sym, ◌∙◌}
use lib.ListN.{length, drop, replicate, length-append, length-drop, length-replicate}
use Rattle.std.proofs.lemmas.List.{length-take}
use Rattle.std.specs.Bool.{then_some}
use Rattle.std.specs.Prelude.{Some}
use Rattle.std.proofs.lemmas.Option.{none-some, same_Some}
use Rattle.std.proofs.lemmas.Bool.{false≢true}
use borrow.Author.Tests.{lt-leb, ne_eqb}
use mathlib.Core.Bool.{Bool, true, false}
use Rattle.pack.specs.Notation.{◌<ᵇ◌}
use Rattle.pack.specs.Trees.{tree_number, protocol_of, prefix_of}
use Rattle.pack.specs.declared.protocol.Protocol.{Protocol}
use Rattle.pack.specs.declared.protocol.Protocol.TheVariants.{Nmea2000, J1939, Quick}
use Rattle.rules.proofs.DigitLaws.{ten_digits}
use Rattle.rules.specs.Digits.{digits, six_digits}
use Rattle.pack.specs.Items.{bytes_of}
use Rattle.pack.specs.declared.text.Text.{Text}
use Rattle.rules.specs.Locs.{pgn_text, loc_text}
use Rattle.rules.specs.PlaceText.{check_prefix, group_loc, lookup_loc}
use Rattle.rules.specs.declared.locs.Loc.{Loc}
use Rattle.rules.specs.declared.locs.Loc.TheVariants.{FieldTypes, Pgn, Lookup, Group}
use Rattle.rules.specs.Texts.{bytes}

-- of every tree number
pub prefix_of_tree : (t : ℕ) → prefix_of (protocol_of t) ≡ check_prefix t
prefix_of_tree zero = refl
prefix_of_tree (suc zero) = refl
prefix_of_tree (suc (suc t)) = rw (ne_eqb (suc (suc t)) 0 (λ z. omega arith), ne_eqb (suc (suc t)) 1 (λ z. omega arith))

pub prefix_is : (p : Protocol) → prefix_of p ≡ check_prefix (tree_number p)
prefix_is Nmea2000 = prefix_of_tree 0
prefix_is J1939 = prefix_of_tree 1
prefix_is Quick = prefix_of_tree 2

prefix_short : (t : ℕ) → length (check_prefix t) ≤ 6
prefix_short zero = omega arith
prefix_short (suc zero) = omega arith
prefix_short (suc (suc t)) = omega arith

six_short : (n : ℕ) → length (six_digits n) ≤ 16
unfolding six_digits
six_short n =
    let k = 6 - length (digits n) in
    omega (arith, length-append (replicate k 48) (digits n), length-replicate {A = ℕ} k 48, ten_digits n)

number_short : (t n : ℕ) → length (check_prefix t ++ bytes "pgns/" ++ six_digits n) ≤ 27
number_short t n =
    omega (arith, length-append (check_prefix t ++ bytes "pgns/") (six_digits n), length-append (check_prefix t) (bytes "pgns/"), prefix_short t, six_short n)

text_short : (s : List ℕ) (t : Text) → length (bytes_of s t) ≤ length s
text_short s t = omega (arith, length-take t.len (drop t.start s), length-drop t.start s)

pub loc_short : (s : List ℕ) (loc : Loc) → length (loc_text s loc) ≤ length s + 34
unfolding pgn_text lookup_loc group_loc
loc_short s FieldTypes = omega arith
loc_short s (Pgn protocol number id) =
    let t = tree_number protocol in let front = check_prefix t ++ bytes "pgns/" ++ six_digits number in
    omega (
      arith,
      length-append (front ++ bytes "-" ++ bytes_of s id) (bytes ".yaml"),
      length-append (front ++ bytes "-") (bytes_of s id),
      length-append front (bytes "-"),
      number_short t number,
      text_short s id,
    )
loc_short s (Lookup name) =
    omega (arith, length-append (bytes "lookups/" ++ bytes_of s name) (bytes ".yaml"), length-append (bytes "lookups/") (bytes_of s name), text_short s name)
loc_short s (Group protocol number) =
    let t = tree_number protocol in
    omega (arith, length-append (check_prefix t ++ bytes "pgns/" ++ six_digits number) (bytes "-*.yaml"), number_short t number)

-- what an option that is there says of the test behind it
pub some_then : {A : Type 0} (b : Bool) {x y : A} → Some x ≡ then_some b y → (b ≡ true) × (x ≡ y)
some_then true {x = x} {y = y} e = (refl, same_Some x y e)
some_then false {x = x} e = absurd (none-some x (sym e))

protocol_number : (t : ℕ) → (t <ᵇ 3) ≡ true → tree_number (protocol_of t) ≡ t
protocol_number zero h = refl
protocol_number (suc zero) h = refl
protocol_number (suc (suc zero)) h = refl
protocol_number (suc (suc (suc t))) h = absurd (false≢true (sym (lt-leb (suc (suc (suc (suc t)))) 3 (omega arith)) ∙ h))

pub tree_read : (t : ℕ) (p : Protocol) → Some p ≡ then_some (t <ᵇ 3) (protocol_of t) → (tree_number p ≡ t) × ((t <ᵇ 3) ≡ true)
tree_read t p e =
    let b = some_then (t <ᵇ 3) e in
    (ap tree_number b.1 ∙ protocol_number t b.0, b.0)
