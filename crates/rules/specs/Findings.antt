-- A finding's eight numbers. "Tree is 0 for places 0 and 2. Item is the index in its list, for place 3 the PGN number."
use Rattle.std.specs.Prelude.{ℕ, ◌+◌, Bool, true, ◌&&◌, not, List, [], ◌∷◌, ◌==◌, if◌then◌else◌}
use Rattle.rules.specs.declared.Finding.{Finding}

-- "severity (1 error, 0 warning)", "place (0 field types, 1 PGN, 2 lookup, 3 PGN group)"
abbrev pub fieldtype_error : (rule cause item : ℕ) → Finding
fieldtype_error rule cause item = record { rule = rule; severity = 1; cause = cause; place = 0; tree = 0; item = item; part = 0; other = 0 }

abbrev pub pgn_finding : (severity rule cause tree item part other : ℕ) → Finding
pgn_finding severity rule cause tree item part other =
    record { rule = rule; severity = severity; cause = cause; place = 1; tree = tree; item = item; part = part; other = other }

abbrev pub pgn_error : (rule cause tree item part other : ℕ) → Finding
pgn_error rule cause tree item part other = pgn_finding 1 rule cause tree item part other

abbrev pub pgn_warning : (rule cause tree item part other : ℕ) → Finding
pgn_warning rule cause tree item part other = pgn_finding 0 rule cause tree item part other

abbrev pub lookup_finding : (severity rule cause item part other : ℕ) → Finding
lookup_finding severity rule cause item part other =
    record { rule = rule; severity = severity; cause = cause; place = 2; tree = 0; item = item; part = part; other = other }

abbrev pub lookup_error : (rule cause item part other : ℕ) → Finding
lookup_error rule cause item part other = lookup_finding 1 rule cause item part other

abbrev pub lookup_warning : (rule cause item part other : ℕ) → Finding
lookup_warning rule cause item part other = lookup_finding 0 rule cause item part other

abbrev pub group_error : (rule cause tree number other : ℕ) → Finding
group_error rule cause tree number other =
    record { rule = rule; severity = 1; cause = cause; place = 3; tree = tree; item = number; part = 0; other = other }

abbrev pub report_if : Bool → Finding → List Finding
report_if b f = if b then f ∷ [] else []

-- how many have severity 1, and that none has: "without one error"
abbrev pub errors : List Finding → ℕ
errors [] = 0
errors (f ∷ fs) = if f.severity == 1 then errors fs + 1 else errors fs

abbrev pub without_error : List Finding → Bool
without_error [] = true
without_error (f ∷ fs) = not (f.severity == 1) && without_error fs

-- those of a rule
abbrev pub only : (rule : ℕ) → List Finding → List Finding
only rule [] = []
only rule (f ∷ fs) = if f.rule == rule then f ∷ only rule fs else only rule fs
