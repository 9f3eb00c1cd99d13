-- What the place text call answers, and what it leaves in the text buffer.
use Rattle.std.specs.Prelude.{ℕ, ◌≡◌, List, [], ◌∷◌, length, if◌then◌else◌}
use Rattle.std.specs.Prelude.{Option, None, Some, Result, Ok, Err}
use Rattle.pack.specs.Notation.{◌≤ᵇ◌}
use Rattle.pack.specs.Load.{Answer, refuses, gives, after, in_numbers, loaded, after_load, load_tells, buffer_left, work_after}
use Rattle.pack.specs.Meaning.{pack_of}
use Rattle.pack.specs.Value.{Bytes}
use Rattle.std.specs.Option.{unwrap_or}
use Rattle.pack.specs.declared.load.Refusal.{Refusal}
use Rattle.pack.specs.declared.load.Refusal.TheVariants.{Absent, Place}
use Rattle.rules.specs.PlaceText.{place_text}

-- 24: "text buffer shorter than the place text"; the detail is "the length needed"
abbrev pub fitted : Bytes → ℕ → Result ℕ Refusal
fitted b n = if length b ≤ᵇ n then Ok (length b) else Err (Place (length b))

-- 23: "tree, PGN, field or finding named is not in the pack", which comes before 24
abbrev pub named : Option Bytes → ℕ → Result ℕ Refusal
named None n = Err Absent
named (Some b) n = fitted b n

-- "Input refusals come before these; then 21, 23, .. 24": the text of a finding's place, of the pack s with a work buffer of m numbers and a text
-- buffer of n bytes
unfoldable pub placed : List ℕ → (m place tree item n : ℕ) → Result ℕ Refusal
placed s m place t item n = after_load (loaded s m) (named (place_text (pack_of s) place t item) n)

-- "After 22 and higher numbers no other buffer has changed"; "Success writes only the entries it reports."
abbrev pub text_left : Result ℕ Refusal → Option Bytes → List ℕ → List ℕ
text_left r b o = buffer_left r (unwrap_or b []) o

unfoldable pub text_after : List ℕ → (m place tree item : ℕ) → List ℕ → List ℕ
text_after s m place t item o = text_left (placed s m place t item (length o)) (place_text (pack_of s) place t item) o

-- ---- the same in 01's numbers

-- for each case of the answer its number and values: the length of the text
abbrev pub place_answer : Result ℕ Refusal → Answer
place_answer = in_numbers (λ n. n ∷ [])

-- 23, then 24 with "the length needed"
abbrev pub text_tells : Option Bytes → ℕ → Answer
text_tells None n = refuses 23 0
text_tells (Some b) n = if length b ≤ᵇ n then gives (length b ∷ []) else refuses 24 (length b)

unfoldable pub place_tells : List ℕ → (m place tree item n : ℕ) → Answer
place_tells s m place t item n = after (load_tells s m) (text_tells (place_text (pack_of s) place t item) n)

-- What the place text call promises: its answer r, and the work and text buffers, w and o before, w' and o' after.
pub record Places (s : List ℕ) (place t item : ℕ) (w o w' o' : List ℕ) (r : Result ℕ Refusal) : Type 0 where
  pub answer : r ≡ placed s (length w) place t item (length o)
  pub told : place_answer r ≡ place_tells s (length w) place t item (length o)
  pub work : w' ≡ work_after s w
  pub text : o' ≡ text_after s (length w) place t item o
