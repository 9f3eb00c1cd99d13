-- "J1939-21 defines PDU1: bits 8 to 15 of the number below 240." Within a range of R02's tables that is the step of 256.
use Rattle.std.specs.Prelude.{ℕ, ◌+◌, ◌*◌, ◌/◌, ◌%◌, ◌≤◌, ◌<◌, Bool, true, false, ◌&&◌, List, [], ◌∷◌, ◌≡◌, refl, ◌==◌, if◌then◌else◌}
use Rattle.std.proofs.Common.{mod-lt, div-add-mod', arith, ltb-true, leb-true, eqb-true, lt-ltb, le-ltb}
use Rattle.std.proofs.lemmas.Bool.{false≢true}
use Rattle.std.specs.Prelude.{Some}
use Rattle.std.proofs.lemmas.Option.{none-some, same_Some}
use Rattle.pack.specs.Kinds.{message_type_number}
use Rattle.pack.specs.Notation.{◌<ᵇ◌, ◌≤ᵇ◌}
use Rattle.rules.specs.PgnRange.{Range, range, PGN_RANGES, J1939_PGN_RANGES, ranges_of, find_range}
use Rattle.rules.specs.declared.pgn_range.Range.{Range as Row}

unfoldable pub pdu1 : ℕ → Bool
pdu1 n = n / 256 % 256 <ᵇ 240

-- a row of the code's tables, which has no step, as the range that it is
abbrev pub range_of : Row → Range
range_of r = range r.start r.end (if pdu1 r.start then 256 else 1) (message_type_number r.kind)

-- the range stays in one page of 65,536 numbers, and there on one side of 240
abbrev one_sided : Range → Bool
one_sided r =
    (r.start / 256 / 256 == r.end / 256 / 256)
    && (if r.step == 256 then r.end / 256 % 256 <ᵇ 240 else 240 ≤ᵇ r.start / 256 % 256)

abbrev all_one_sided : List Range → Bool
all_one_sided [] = true
all_one_sided (r ∷ rs) = one_sided r && all_one_sided rs

-- n's page, bits 8 to 15, and low byte
record Split (n : ℕ) : Type 0 where
  whole : n / 256 / 256 * 65536 + n / 256 % 256 * 256 + n % 256 ≡ n
  middle : n / 256 % 256 < 256
  low : n % 256 < 256

split : (n : ℕ) → Split n
split n =
    record {
      whole = omega (arith, div-add-mod' n 256, div-add-mod' (n / 256) 256);
      middle = mod-lt (n / 256) (omega arith);
      low = mod-lt n (omega arith);
    }

-- a number from a to e, all in one page: its middle byte lies between theirs
record Between (a n e : ℕ) : Type 0 where
  from : a / 256 % 256 ≤ n / 256 % 256
  upto : n / 256 % 256 ≤ e / 256 % 256

between : (a n e : ℕ) → a ≤ n → n ≤ e → a / 256 / 256 ≡ e / 256 / 256 → Between a n e
between a n e h k p =
    let low : a / 256 / 256 ≤ n / 256 / 256 = omega (arith, split a, split n) in
    let high : n / 256 / 256 ≤ e / 256 / 256 = omega (arith, split n, split e) in
    record { from = omega (arith, split a, split n); upto = omega (arith, split n, split e) }

within : (r : Range) (n : ℕ) → one_sided r ≡ true → r.start ≤ n → n ≤ r.end → (r.step == 256) ≡ pdu1 n
unfolding pdu1
within r n o a b = go (r.start / 256 / 256 == r.end / 256 / 256) refl (r.step == 256) refl o
  where
    go : (p : Bool) → (r.start / 256 / 256 == r.end / 256 / 256) ≡ p → (s : Bool) → (r.step == 256) ≡ s
        → (p && (if s then r.end / 256 % 256 <ᵇ 240 else 240 ≤ᵇ r.start / 256 % 256)) ≡ true → (r.step == 256) ≡ pdu1 n
    go false p s q h = absurd (false≢true h)
    go true p true q h =
        let x = between r.start n r.end a b (eqb-true (r.start / 256 / 256) (r.end / 256 / 256) p) in
        rw (q, lt-ltb (n / 256 % 256) 240 (omega (arith, x.upto, ltb-true (r.end / 256 % 256) 240 h)))
    go true p false q h =
        let x = between r.start n r.end a b (eqb-true (r.start / 256 / 256) (r.end / 256 / 256) p) in
        rw (q, le-ltb (n / 256 % 256) 240 (omega (arith, x.from, leb-true 240 (r.start / 256 % 256) h)))

-- what is found is a row of the table, and does not end below the number
found : (rs : List Range) (n : ℕ) (r : Range) → all_one_sided rs ≡ true → find_range rs n ≡ Some r → (one_sided r ≡ true) × (n ≤ r.end)
unfolding find_range
found [] n r o e = absurd (none-some r e)
found (x ∷ rs) n r o e = go (one_sided x) refl o (n ≤ᵇ x.end) refl (found rs n r)
  where
    go : (s : Bool) → one_sided x ≡ s → (s && all_one_sided rs) ≡ true → (b : Bool) → (n ≤ᵇ x.end) ≡ b
        → (all_one_sided rs ≡ true → find_range rs n ≡ Some r → (one_sided r ≡ true) × (n ≤ r.end))
        → (one_sided r ≡ true) × (n ≤ r.end)
    go false s h b q rec = absurd (false≢true h)
    go true s h false q rec = rec h (rw q at e)
    go true s h true q rec =
        let z : x ≡ r = same_Some x r (rw q at e) in
        rw (← z) (s, leb-true n x.end q)

tables : (t : ℕ) → all_one_sided (ranges_of t) ≡ true
tables t = go (t == 1)
  where
    go : (b : Bool) → all_one_sided (if b then J1939_PGN_RANGES else PGN_RANGES) ≡ true
    go true = refl
    go false = refl

pub pdu1_step : (t n : ℕ) (r : Range) → find_range (ranges_of t) n ≡ Some r → r.start ≤ n → (r.step == 256) ≡ pdu1 n
pdu1_step t n r e h = let f = found (ranges_of t) n r (tables t) e in within r n f.0 h f.1
