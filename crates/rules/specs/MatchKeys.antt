-- The key of a PGN's matches as a stream of bytes. A key that is not empty is read with a `,` before it, so that all its pieces are alike.
use Rattle.std.specs.Prelude.{ℕ, zero, suc, ◌+◌, ◌-◌, ◌≤◌, ◌≡◌, List, [], ◌∷◌, ◌++◌, length, drop}
use Rattle.std.specs.Prelude.{Option, None, Some}
use Rattle.pack.specs.Value.{Bytes, Pgn, field_at}
use Rattle.pack.specs.Items.{bytes_of}
use Rattle.pack.specs.declared.text.Text.{Text}
use Rattle.rules.specs.declared.match_keys.MatchKey.{MatchKey}
use Rattle.rules.specs.declared.match_keys.KeyByte.{KeyByte}
use Rattle.rules.specs.Digits.{digits}
use Rattle.rules.specs.Texts.{bytes}

-- `,`, index, `=` and match text of a field
abbrev pub piece : (k : ℕ) → Option Bytes → Bytes
piece k None = []
piece k (Some m) = bytes "," ++ digits k ++ bytes "=" ++ m

-- the pieces of so many fields from k on
abbrev pub pieces_from : Pgn → (k many : ℕ) → Bytes
pieces_from p k zero = []
pieces_from p k (suc many) = piece k (field_at p k).match ++ pieces_from p (suc k) many

-- what is still to come: of the head, of the text, of the fields from the next one on
unfoldable pub to_come : List ℕ → Pgn → MatchKey → Bytes
to_come s p key = drop key.at key.head ++ (bytes_of s key.text ++ pieces_from p key.field (length p.fields - key.field))

-- a byte and what comes after it, or the end
abbrev pub first_and : List ℕ → Pgn → Option KeyByte → Bytes
first_and s p None = []
first_and s p (Some b) = b.byte ∷ to_come s p b.after

-- a key of a PGN with so many fields
pub record KeyHolds (key : MatchKey) (fields : ℕ) : Type 0 where
  pub field : key.field ≤ fields

-- nothing to come before the pieces of the fields from k on
pub record Before (k : ℕ) (key : MatchKey) : Type 0 where
  pub written : drop key.at key.head ≡ []
  pub text : key.text.len ≡ 0
  pub field : key.field ≡ k

-- the `,` of field k's piece, with that match text to come
pub record Begun (k : ℕ) (match : Text) (r : KeyByte) : Type 0 where
  pub byte : r.byte ≡ 44
  pub written : drop r.after.at r.after.head ≡ digits k ++ bytes "="
  pub text : r.after.text ≡ match
  pub field : r.after.field ≡ k + 1
