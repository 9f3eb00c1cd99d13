-- What a place text is made of, as the code that writes it is told.
use Rattle.std.specs.Prelude.{ℕ, List, ◌++◌}
use Rattle.pack.specs.Items.{bytes_of}
use Rattle.pack.specs.Trees.{tree_number}
use Rattle.pack.specs.Value.{Bytes}
use Rattle.rules.specs.Digits.{six_digits}
use Rattle.rules.specs.PlaceText.{check_prefix, group_loc, lookup_loc}
use Rattle.rules.specs.Texts.{bytes}
use Rattle.rules.specs.declared.locs.Loc.{Loc}
use Rattle.rules.specs.declared.locs.Loc.TheVariants.{FieldTypes, Pgn, Lookup, Group}

-- `pgn_loc` of a number and an id
unfoldable pub pgn_text : (t number : ℕ) → Bytes → Bytes
pgn_text t number id = check_prefix t ++ bytes "pgns/" ++ six_digits number ++ bytes "-" ++ id ++ bytes ".yaml"

abbrev pub loc_text : List ℕ → Loc → Bytes
loc_text s FieldTypes = bytes "fieldtypes.yaml"
loc_text s (Pgn protocol number id) = pgn_text (tree_number protocol) number (bytes_of s id)
loc_text s (Lookup name) = lookup_loc (bytes_of s name)
loc_text s (Group protocol number) = group_loc (tree_number protocol) number
