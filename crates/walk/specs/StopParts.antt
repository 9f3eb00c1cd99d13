-- The stops 3 to 9 in the parts that code asks for: by the field alone, by its reading, by what is current. Together they are `stop_at`
-- (proofs/Parts.antt). Below them what code keeps of a field, so as not to ask again.
use Rattle.std.specs.Prelude.{ℕ, suc, ◌+◌, ◌*◌, ◌-◌, ◌<◌, ◌≤◌, ◌≡◌, Bool, true, false, not, ◌&&◌, List, length, get_or, ◌==◌, if◌then◌else◌}
use Rattle.std.specs.Prelude.{Option, None, Some, IfSome}
use Rattle.pack.specs.Notation.{◌<ᵇ◌}
use Rattle.pack.specs.Value.{Entry, Reference, Field, Pgn, Pack, field_at, lookup_at, entry_at}
use Rattle.pack.specs.Meaning.{pack_of}
use Rattle.rules.specs.DynamicLength.{length_source}
use Rattle.rules.specs.Model.{lookup_ref}
use Rattle.rules.specs.Search.{any_below}
use Rattle.walk.specs.ByPlace.{placed}
use Rattle.pack.specs.declared.loaded.LookupRef.{LookupRef}
use Rattle.pack.specs.declared.protocol.FieldIndex.{FieldIndex}
use Rattle.walk.specs.Layout.{Layout, layout, sets_hold}
use Rattle.walk.specs.Stops.{lookup_missing, match_unfit, names_missing, entries_name_missing, reference_names_missing, lacks, lacks_length, stop_at}
use Rattle.walk.specs.declared.known.Memory.{Memory}
use Rattle.walk.specs.declared.stops.Stop.{Stop}
use Rattle.walk.specs.declared.stops.Stop.TheVariants.{LookupMissing, MatchUnfit, EntryNamesMissing, LengthNotCurrent}
use Rattle.walk.specs.declared.stops.Stop.TheVariants.{ContinuedNotCurrent, NoLengthSource, TrailingNotCurrent}

-- 3 and 4
unfoldable pub field_stop : Pack → Field → Option Stop
field_stop P f = if lookup_missing P f then Some LookupMissing else (if match_unfit P f then Some MatchUnfit else None)

-- an entry of the lookup, if there is one, is for the reading and names something missing
abbrev pub entry_missing : Pack → Option LookupRef → (reading : ℕ) → Bool
entry_missing P None reading = false
entry_missing P (Some l) reading = entries_name_missing P (lookup_at P.lookups l.item).entries reading

-- 5: l is the fieldtype lookup of the pack s that the reference r names, if there is one, and its entries decide; where there is none no reading stops
pub record Named (s : List ℕ) (r : Option Reference) (l : Option LookupRef) : Type 0 where
  pub pack : IfSome l (λ v. v.pack.bytes.now ≡ s)
  pub kind : IfSome l (λ v. (lookup_at (pack_of s).lookups v.item).kind ≡ 3)
  pub decide : (reading : ℕ) → reference_names_missing (pack_of s) r reading ≡ entry_missing (pack_of s) l reading

-- 8: the giver, if there is one, is a length source before field k
pub record IsSource (P : Pack) (p : Pgn) (k : ℕ) (giver : Option FieldIndex) : Type 0 where
  pub before : IfSome giver (λ g. g.0 < k)
  pub source : IfSome giver (λ g. length_source P.fieldtypes (field_at p g.0) ≡ true)

-- there is a giver, and every set that holds it holds field k
abbrev pub holds_also : Layout → Option FieldIndex → (k : ℕ) → Bool
holds_also L None k = false
holds_also L (Some g) k = sets_hold L (suc g.0) (suc k)

-- 6 to 9
unfoldable pub need_stop : Pack → Pgn → (ℕ → Bool) → ℕ → Option Stop
need_stop P p current i =
    let f = field_at p i in
    if lacks p current f.bit_length_field then Some LengthNotCurrent
    else (if lacks p current f.continues then Some ContinuedNotCurrent
    else (if lacks_length P p current i then Some NoLengthSource
    else (if lacks p current f.trailing_zero then Some TrailingNotCurrent
    else None)))

-- field k stops by its reading alone, if at all
pub record OnlyByReading (P : Pack) (p : Pgn) (k : ℕ) : Type 0 where
  pub only : (reading : ℕ) → stop_at P p (placed (layout p) (suc k)) k reading
      ≡ (if reference_names_missing P (lookup_ref (field_at p k)) reading then Some EntryNamesMissing else None)

-- the reading is one of the n that are kept from place `at` on
abbrev pub among : (bad : List ℕ) → (at n reading : ℕ) → Bool
among bad at n reading = any_below (λ j. get_or bad (at + j) 0 == reading) n

-- nothing but the four places from `at` on has changed
pub record SameBut (at : ℕ) (bad bad' : List ℕ) : Type 0 where
  pub below : (i : ℕ) → i < at → get_or bad' i 0 ≡ get_or bad i 0
  pub above : (i : ℕ) → at + 4 ≤ i → get_or bad' i 0 ≡ get_or bad i 0

-- OF THE FIRST e ENTRIES THE VALUES OF THOSE THAT NAME SOMETHING MISSING are among the n from place `at` on, if there is room. An n of 5 says
-- nothing of them: there are more than four.
pub record Collected (P : Pack) (es : List Entry) (e at : ℕ) (bad bad' : List ℕ) (n : ℕ) : Type 0 where
  pub few : n ≤ 5
  pub others : SameBut at bad bad'
  pub kept : n < 5 → (0 < n → at + 4 ≤ length bad') → (i : ℕ) → i < e → names_missing P (entry_at es i) ≡ true
      → among bad' at n (entry_at es i).value ≡ true

-- WHAT IS REMEMBERED OF FIELD k: its mark, and up to four readings, from place 4 k on. The mark 1 + n, n at most 4: it stops at none but the
-- first n of these readings. Any other mark says nothing.
abbrev pub lets_pass : Memory → (k reading : ℕ) → Bool
lets_pass memory k reading =
    (0 <ᵇ get_or memory.marks k 0) && (get_or memory.marks k 0 <ᵇ 6) && not (among memory.bad (4 * k) (get_or memory.marks k 0 - 1) reading)

-- it is right: field k does not stop at a reading that it lets pass
pub record Remembered (P : Pack) (p : Pgn) (memory : Memory) : Type 0 where
  pub never : (k reading : ℕ) → lets_pass memory k reading ≡ true → stop_at P p (placed (layout p) (suc k)) k reading ≡ None
