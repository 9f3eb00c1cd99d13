-- The stops 3 to 9 at a due field of the PGN p of the pack P (document 01, "The walk"). `current` says which fields are current.
use Rattle.std.specs.Prelude.{is_some}
use Rattle.std.specs.Prelude.{ℕ, ◌-◌, ◌^◌, Bool, true, false, not, ◌&&◌, ◌||◌, List, length, ◌==◌, if◌then◌else◌}
use Rattle.std.specs.Prelude.{Option, None, Some}
use Rattle.pack.specs.Notation.{◌<ᵇ◌, ◌≐◌}
use Rattle.pack.specs.Value.{Bytes, Entry, Reference, Field, Pgn, Pack, field_at, lookup_at, entry_at}
use Rattle.rules.specs.Search.{any_below}
use Rattle.rules.specs.Model.{root_of, lookup_ref, find_lookup, target, fieldtypes, resolve_match}
use Rattle.rules.specs.DynamicLength.{length_source}
use Rattle.rules.specs.LookupWiring.{is_fieldtype}
use Rattle.rules.specs.Texts.{DYNAMIC_FIELD_VALUE}
use Rattle.walk.specs.declared.stops.Stop.{Stop}
use Rattle.walk.specs.declared.stops.Stop.TheVariants.{SetMisplaced, CounterNotCurrent, LookupMissing, MatchUnfit, EntryNamesMissing, LengthNotCurrent}
use Rattle.walk.specs.declared.stops.Stop.TheVariants.{ContinuedNotCurrent, NoLengthSource, TrailingNotCurrent}

-- the stops by their numbers
abbrev pub number_of : Stop → ℕ
number_of SetMisplaced = 1
number_of CounterNotCurrent = 2
number_of LookupMissing = 3
number_of MatchUnfit = 4
number_of EntryNamesMissing = 5
number_of LengthNotCurrent = 6
number_of ContinuedNotCurrent = 7
number_of NoLengthSource = 8
number_of TrailingNotCurrent = 9

-- a lookup is named, and the pack has none of that name
unfoldable pub is_missing : Pack → Option Bytes → Bool
is_missing P None = false
is_missing P (Some name) = not (is_some (find_lookup P.lookups name))

abbrev pub name_of : Option Reference → Option Bytes
name_of None = None
name_of (Some r) = Some r.name

-- "3 lookup missing"
unfoldable pub lookup_missing : Pack → Field → Bool
lookup_missing P f = is_missing P (name_of (lookup_ref f))

-- "4 match unresolved or, below 64 bits, above 2^bits − 1"
unfoldable pub unfit : (bits : ℕ) → (resolved : Option ℕ) → Bool
unfit bits None = true
unfit bits (Some value) = (bits <ᵇ 64) && (2 ^ bits - 1 <ᵇ value)

unfoldable pub match_unfit : Pack → Field → Bool
match_unfit P f = is_some f.match && unfit f.res_bits (resolve_match P.lookups f)

-- "5 an entry for the reading names a missing field type or nested lookup"
unfoldable pub names_missing : Pack → Entry → Bool
names_missing P e = not (is_fieldtype P.fieldtypes e.fieldtype) || is_missing P e.nested

unfoldable pub entries_name_missing : Pack → List Entry → (reading : ℕ) → Bool
entries_name_missing P es reading = any_below (λ e. ((entry_at es e).value == reading) && names_missing P (entry_at es e)) (length es)

-- The entries of the lookup that is named: only those of a fieldtype lookup name anything.
unfoldable pub lookup_names_missing : Pack → Option ℕ → (reading : ℕ) → Bool
lookup_names_missing P None reading = false
lookup_names_missing P (Some l) reading = entries_name_missing P (fieldtypes (lookup_at P.lookups l)) reading

unfoldable pub reference_names_missing : Pack → Option Reference → (reading : ℕ) → Bool
reference_names_missing P None reading = false
reference_names_missing P (Some r) reading = lookup_names_missing P (find_lookup P.lookups r.name) reading

-- "A target is the first field with that id; without one it is not current."
abbrev pub target_current : (ℕ → Bool) → Option ℕ → Bool
target_current current None = false
target_current current (Some t) = current t

-- "6 bitLengthField target not current; 7 continued field not current", "9 trailing-zero target not current": it is named, and is not
unfoldable pub lacks : Pgn → (ℕ → Bool) → Option Bytes → Bool
lacks p current None = false
lacks p current (Some id) = not (target_current current (target p id))

-- "8 root DYNAMIC_FIELD_VALUE and no lower-order dynamicFieldLength or DYNAMIC_FIELD_KEY field current"
abbrev pub is_dynamic_value : Pack → Field → Bool
is_dynamic_value P f = root_of P.fieldtypes f ≐ DYNAMIC_FIELD_VALUE

unfoldable pub lacks_length : Pack → Pgn → (ℕ → Bool) → ℕ → Bool
lacks_length P p current i = is_dynamic_value P (field_at p i) && not (any_below (λ j. length_source P.fieldtypes (field_at p j) && current j) i)

-- "At a field, in this order": the field i, with this reading
unfoldable pub stop_at : Pack → Pgn → (ℕ → Bool) → (i reading : ℕ) → Option Stop
stop_at P p current i reading =
    let f = field_at p i in
    if lookup_missing P f then Some LookupMissing
    else (if match_unfit P f then Some MatchUnfit
    else (if reference_names_missing P (lookup_ref f) reading then Some EntryNamesMissing
    else (if lacks p current f.bit_length_field then Some LengthNotCurrent
    else (if lacks p current f.continues then Some ContinuedNotCurrent
    else (if lacks_length P p current i then Some NoLengthSource
    else (if lacks p current f.trailing_zero then Some TrailingNotCurrent
    else None))))))
