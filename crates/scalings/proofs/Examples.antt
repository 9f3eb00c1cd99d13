-- "A lone NaN field stays silent; two with one SPN do not" of every pack; the edges as computed packs, each with the theorem at it; and for
-- three wrong readings a pack of which the theorem would be false.
use Rattle.std.specs.Prelude.{cond}
use Prim.Native.Nat.{ℕ}
use native.Mathlib.Omega.{arith}
use mathlib.Core.Bool.{Bool, true, false, ◌&&◌, beq, false≢true}
use mathlib.Core.List.{List, [], ◌∷◌, map}
use Rattle.std.specs.Prelude.{Option, None, Some}
use mathlib.Core.Path.{◌≡◌, refl, sym, ◌∙◌}
use lib.Ieee.{binary64, of_bits, nan, eq}
use Rattle.pack.specs.Value.{Bytes, Field, Pgn, Pack, pgn_at, field_at}
use Rattle.rules.specs.Check.{check}
use Rattle.rules.specs.Computed.{computed}
use Rattle.rules.specs.ExamplePacks.{number_type, a_field, a_pgn, NAN, MINUS_ZERO}
use Rattle.rules.specs.Floats.{float_eq, ONE}
use Rattle.rules.specs.Texts.{bytes, NUMBER}
use Rattle.rules.proofs.Extremes.{and_left, and_right}
use Rattle.scalings.specs.Scalings.{Carries, Different, Alike, AllAlike, has_cause}
use Rattle.scalings.proofs.AlikeLaws.{alike_sym, alike_trans}
use Rattle.scalings.proofs.Silent42.{Lone, silent_42}

-- ---- "A lone NaN field stays silent; two with one SPN do not."

-- no cause 3 in a pack in which no two fields share an SPN, whatever their scalings; at such a field, whatever the others: `lone_silent`
-- (proofs/Silent42)
pub alone : (P : Pack) → ((spn i k : ℕ) → Carries P spn i k → Lone P spn i k) → has_cause 42 3 (check P) ≡ false
alone P lone = (silent_42 P).of_check.1 (λ spn i k j h c d different. let e = lone spn i k c j h d in absurd (different e.0 e.1))

-- a field with a NaN, as resolution or as offset, is not like itself
pub nan_resolution : (f : Field) → of_bits binary64 f.res_resolution ≡ nan → Alike f f → ⊥
unfolding float_eq eq
nan_resolution f e a = false≢true (rw e at a.resolution)

pub nan_offset : (f : Field) → of_bits binary64 f.res_offset ≡ nan → Alike f f → ⊥
unfolding float_eq eq
nan_offset f e a = false≢true (rw e at a.offset)

-- and so like no other: of two with one SPN, one is such a field
pub nan_of_two : (P : Pack) (spn i k j h : ℕ) → Carries P spn i k → Carries P spn j h → Different i k j h
    → (Alike (field_at (pgn_at P 1 i) k) (field_at (pgn_at P 1 i) k) → ⊥) → has_cause 42 3 (check P) ≡ true
nan_of_two P spn i k j h c d different odd = go (has_cause 42 3 (check P)) refl
  where
    go : (b : Bool) → has_cause 42 3 (check P) ≡ b → has_cause 42 3 (check P) ≡ true
    go true u = u
    go false u =
        let a = (silent_42 P).of_check.0 u spn i k j h c d different in
        absurd (odd (alike_trans _ (field_at (pgn_at P 1 j) h) _ a (alike_sym _ _ a)))

-- ---- packs of J1939 fields

abbrev field : (spn : Option ℕ) (bits resolution offset : ℕ) (unit : Option Bytes) → Field
field spn bits resolution offset unit = a_field (bytes "a") (bytes "A") NUMBER bits resolution offset unit spn None None None None

abbrev pgn : List Field → Pgn
pgn fields = a_pgn 65262 (bytes "a") None fields

-- PGNs of the J1939 tree, beside those of the others
abbrev beside : (nmea2000 quick : List Pgn) → List (List Field) → Pack
beside nmea2000 quick fields =
    record { fieldtypes = number_type ∷ []; lookups = []; pgns = nmea2000; pgns_j1939 = map pgn fields; pgns_quick = quick }

abbrev j1939 : List (List Field) → Pack
j1939 fields = beside [] [] fields

-- two fields of one PGN, and of two
abbrev of_one : (f g : Field) → Pack
of_one f g = j1939 ((f ∷ g ∷ []) ∷ [])

abbrev of_two : (f g : Field) → Pack
of_two f g = j1939 ((f ∷ []) ∷ (g ∷ []) ∷ [])

abbrev MINUS_NAN : ℕ
MINUS_NAN = 0xfff8_0000_0000_0000

-- SPN 247 is engine hours
abbrev hours : (bits resolution offset : ℕ) (unit : Option Bytes) → Field
hours = field (Some 247)

abbrev wide : (spn bits : ℕ) → Field
wide spn bits = field (Some spn) bits ONE 0 None

-- ---- the edges: what R42 says of cause 3 in the report

record Edge : Type 0 where
  pack : Pack
  found : Bool

abbrev silent_edge : Pack → Edge
silent_edge pack = record { pack = pack; found = false }

abbrev found_edge : Pack → Edge
found_edge pack = record { pack = pack; found = true }

abbrev lone_nan : Pack
lone_nan = j1939 ((hours 32 NAN 0 None ∷ []) ∷ [])

abbrev two_nan : Pack
two_nan = of_one (hours 32 NAN 0 None) (hours 32 NAN 0 None)

abbrev two_zeros : Pack
two_zeros = of_two (hours 32 0 0 None) (hours 32 MINUS_ZERO MINUS_ZERO None)

abbrev last_spn : Pack
last_spn = of_two (wide 524287 8) (wide 524287 16)

abbrev beyond : Pack
beyond = of_two (wide 524288 8) (wide 524288 16)

abbrev edges : List Edge
edges =
    silent_edge lone_nan
    ∷ silent_edge (j1939 ((hours 32 ONE NAN None ∷ []) ∷ []))
    ∷ found_edge two_nan
    ∷ found_edge (of_two (hours 32 NAN 0 None) (hours 32 NAN 0 None))
    ∷ found_edge (of_two (hours 32 ONE NAN None) (hours 32 ONE NAN None))
    ∷ found_edge (of_two (hours 32 NAN 0 None) (hours 32 MINUS_NAN 0 None))
    ∷ found_edge (of_two (hours 32 NAN 0 None) (hours 32 ONE 0 None))
    ∷ silent_edge two_zeros
    ∷ found_edge (of_two (wide 0 8) (wide 0 16))
    ∷ found_edge last_spn
    ∷ silent_edge beyond
    -- two fields of one PGN
    ∷ silent_edge (of_one (wide 247 16) (wide 247 16))
    ∷ found_edge (of_one (wide 247 16) (wide 247 32))
    -- each member by itself
    ∷ found_edge (of_two (hours 16 ONE 0 None) (hours 32 ONE 0 None))
    ∷ found_edge (of_two (hours 32 0 0 None) (hours 32 ONE 0 None))
    ∷ found_edge (of_two (hours 32 ONE 0 None) (hours 32 ONE ONE None))
    ∷ found_edge (of_two (hours 32 ONE 0 (Some (bytes "h"))) (hours 32 ONE 0 (Some (bytes "s"))))
    -- a unit that is absent is no empty one
    ∷ found_edge (of_two (hours 32 ONE 0 None) (hours 32 ONE 0 (Some [])))
    ∷ silent_edge (of_two (hours 32 ONE 0 (Some [])) (hours 32 ONE 0 (Some [])))
    -- two SPNs; a field without one; a field of another tree
    ∷ silent_edge (of_two (wide 247 16) (wide 248 32))
    ∷ silent_edge (of_two (wide 247 16) (field None 32 ONE 0 None))
    ∷ silent_edge (beside (pgn (wide 247 32 ∷ []) ∷ []) [] ((wide 247 16 ∷ []) ∷ []))
    ∷ silent_edge (beside [] (pgn (wide 247 32 ∷ []) ∷ []) ((wide 247 16 ∷ []) ∷ []))
    -- of three the first is unlike the others, or the third
    ∷ found_edge (j1939 ((wide 247 16 ∷ []) ∷ (wide 247 32 ∷ wide 247 32 ∷ []) ∷ []))
    ∷ found_edge (j1939 ((wide 247 16 ∷ []) ∷ (wide 247 16 ∷ wide 247 32 ∷ []) ∷ []))
    ∷ []

abbrev as_said : List Edge → Bool
as_said [] = true
as_said (e ∷ es) = beq (has_cause 42 3 (check e.pack)) e.found && as_said es

edges_hold : as_said edges ≡ true
unfolding computed
edges_hold = refl

-- ---- the theorem at each of them

abbrev Instance : Edge → Type 0
Instance e = cond e.found (AllAlike e.pack → ⊥) (AllAlike e.pack)

abbrev Instances : List Edge → Type 0
Instances [] = Unit {0}
Instances (e ∷ es) = Instance e × Instances es

instance : (P : Pack) (found : Bool) → beq (has_cause 42 3 (check P)) found ≡ true → Instance (record { pack = P; found = found })
instance P found h = go (has_cause 42 3 (check P)) refl found h
  where
    go : (b : Bool) → has_cause 42 3 (check P) ≡ b → (found : Bool) → beq b found ≡ true → Instance (record { pack = P; found = found })
    go true e true h = λ all. false≢true (sym ((silent_42 P).of_check.1 all) ∙ e)
    go true e false h = absurd (false≢true h)
    go false e true h = absurd (false≢true h)
    go false e false h = (silent_42 P).of_check.0 e

instances : (es : List Edge) → as_said es ≡ true → Instances es
instances [] h = tt
instances (e ∷ es) h =
    let x = beq (has_cause 42 3 (check e.pack)) e.found in
    (instance e.pack e.found (and_left x (as_said es) h), instances es (and_right x (as_said es) h))

edges_alike : Instances edges
edges_alike = instances edges edges_hold

-- ---- wrong readings

abbrev at : Pack → (i k : ℕ) → Field
at P i k = field_at (pgn_at P 1 i) k

-- with "of at most 524,288" the theorem would be false of `beyond`: it is silent, and its two fields are not alike
beyond_differs : Alike (at beyond 0 0) (at beyond 1 0) → ⊥
beyond_differs a = omega (arith, a.width)

-- without "different" it would be false of `lone_nan`: it is silent, and its field is not like itself
nan_differs : Alike (at lone_nan 0 0) (at lone_nan 0 0) → ⊥
unfolding computed
nan_differs a = false≢true a.resolution

-- with floats compared as patterns, of `two_nan`, which is not silent, and of `two_zeros`, which is. The two fields of `two_nan` are one in
-- all but their place, so that with "different" by content it would be false of `two_nan` too.
same_patterns : at two_nan 0 0 ≡ at two_nan 0 1
same_patterns = refl

other_patterns : (at two_zeros 0 0).res_offset ≡ (at two_zeros 1 0).res_offset → ⊥
other_patterns e = omega (arith, e)
