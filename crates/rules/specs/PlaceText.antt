-- The text of a finding's place, and whether it is in the pack.
use Rattle.std.specs.Bool.{then_some}
use Rattle.std.specs.Prelude.{ℕ, zero, suc, Bool, ◌&&◌, [], ◌++◌, length, ◌==◌, if◌then◌else◌}
use Rattle.std.specs.Prelude.{Option, None}
use Rattle.pack.specs.Notation.{◌<ᵇ◌}
use Rattle.pack.specs.Value.{Bytes, Pgn, Pack, pgns_of, pgn_at, lookup_at}
use Rattle.rules.specs.Digits.{six_digits}
use Rattle.rules.specs.Search.{any_below}
use Rattle.rules.specs.Texts.{bytes}

-- `check_prefix` of a tree
abbrev pub check_prefix : ℕ → Bytes
check_prefix zero = []
check_prefix (suc zero) = bytes "j1939/"
check_prefix (suc (suc t)) = bytes "quick/"

-- `pgn_loc`
unfoldable pub pgn_loc : (t : ℕ) → Pgn → Bytes
pgn_loc t p = check_prefix t ++ bytes "pgns/" ++ six_digits p.pgn ++ bytes "-" ++ p.id ++ bytes ".yaml"

unfoldable pub group_loc : (t number : ℕ) → Bytes
group_loc t number = check_prefix t ++ bytes "pgns/" ++ six_digits number ++ bytes "-*.yaml"

unfoldable pub lookup_loc : Bytes → Bytes
lookup_loc name = bytes "lookups/" ++ name ++ bytes ".yaml"

-- "for place 3 a PGN of that number in the tree"
unfoldable pub has_number : Pack → (t number : ℕ) → Bool
has_number P t number = any_below (λ i. (pgn_at P t i).pgn == number) (length (pgns_of P t))

-- "it is in the pack if that record, or for place 3 a PGN of that number in the tree, is there; places 0 and 2 want tree 0"
unfoldable pub place_text : Pack → (place tree item : ℕ) → Option Bytes
place_text P place t item =
    if place == 0 then then_some ((t == 0) && (item <ᵇ length P.fieldtypes)) (bytes "fieldtypes.yaml")
    else (if place == 1 then then_some ((t <ᵇ 3) && (item <ᵇ length (pgns_of P t))) (pgn_loc t (pgn_at P t item))
    else (if place == 2 then then_some ((t == 0) && (item <ᵇ length P.lookups)) (lookup_loc (lookup_at P.lookups item).name)
    else (if place == 3 then then_some ((t <ᵇ 3) && has_number P t item) (group_loc t item)
    else None)))
