-- R24, `check_lookup_names`: a lookup gives each name to one code (under the same first value, for a triplet).
use Rattle.std.specs.Prelude.{ℕ, Bool, ◌&&◌, ◌||◌, not, List, [], ◌∷◌, ◌++◌, length, ◌==◌, if◌then◌else◌, Option, None, Some}
use Rattle.pack.specs.Notation.{◌≐◌, concat_below}
use Rattle.pack.specs.Value.{Entry, Lookup, Pack, lookup_at, entry_at}
use Rattle.rules.specs.declared.Finding.{Finding}
use Rattle.rules.specs.Findings.{lookup_error}
use Rattle.rules.specs.Search.{latest_below}
use Rattle.rules.specs.SpnNames.{check_spn_names}
use Rattle.rules.specs.Texts.{SPN_LOOKUP}

-- one name, of a triplet under one first value
unfoldable pub same_name : (kind : ℕ) → Entry → Entry → Bool
same_name kind a b = (not (kind == 1) || (a.first == b.first)) && (a.name ≐ b.name)

-- 1: `insert` answers the latest earlier holder of the name
unfoldable pub same_name_as : (l e : ℕ) → Option ℕ → List Finding
same_name_as l e None = []
same_name_as l e (Some d) = lookup_error 24 1 l e d ∷ []

-- J1939_SPN is "generated from field names: reported where the name is written"
unfoldable pub lookup_names_of : (l : ℕ) → Lookup → List Finding
lookup_names_of l lookup =
    if lookup.name ≐ SPN_LOOKUP then []
    else
    concat_below
    (λ e. same_name_as l e (latest_below (λ d. same_name lookup.kind (entry_at lookup.entries d) (entry_at lookup.entries e)) e))
    (length lookup.entries)

unfoldable pub check_lookup_names : Pack → List Finding
check_lookup_names P = check_spn_names P.pgns_j1939 ++ concat_below (λ l. lookup_names_of l (lookup_at P.lookups l)) (length P.lookups)
