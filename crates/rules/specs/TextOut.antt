-- A text put into a buffer byte by byte, where the buffer has the places.
use Rattle.std.specs.Prelude.{ℕ, ◌+◌, ◌≡◌, min, List, set}
use Rattle.pack.specs.Value.{Bytes}
use Rattle.rules.specs.declared.text_out.TextOut.{TextOut}
use mathlib.Core.List.{foldl}

-- the buffer, and how long the text is
pub record Written : Type 0 where
  pub bytes : List ℕ
  pub count : ℕ

abbrev pub nothing_in : List ℕ → Written
nothing_in o = record { bytes = o; count = 0 }

abbrev pub written_in : TextOut → Written
written_in t = record { bytes = t.bytes.now; count = t.count }

-- A byte beyond the buffer is not stored. The count stops at the largest number of 64 bits. A place text is far shorter (PlaceTexts).
unfoldable pub put_byte : Written → ℕ → Written
put_byte o b = record { bytes = set o.bytes o.count b; count = min (o.count + 1) 18446744073709551615 }

abbrev pub put_text : Written → Bytes → Written
put_text = foldl put_byte

-- what is promised by every function that puts a text: its bytes are put behind those before, into the same buffer
pub record Puts (o : TextOut) (text : Bytes) (o' : TextOut) : Type 0 where
  pub written : written_in o' ≡ put_text (written_in o) text
  pub same : o'.bytes.ghost_name ≡ o.bytes.ghost_name
