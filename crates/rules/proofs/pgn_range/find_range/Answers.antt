use Rattle.rules.specs.PgnRange.{find_range}
use Rattle.rules.specs.Pdu1.{range_of}
use Rattle.rules.specs.declared.pgn_range.Range.{Range}
use lib.ListN.{drop_of_length-le, length, get_or, drop}
use lib.Seq.{drop-cons}
use Rattle.std.specs.Prelude.{None, Some}
use mathlib.Core.List.{List, map}
use Prim.Native.Nat.{ℕ, ◌+◌, ◌≤◌, ◌<◌}
use Rattle.pack.specs.declared.kinds.MessageType.TheVariants.{Single}
use native.Mathlib.Numerals.{add-one}
use native.Mathlib.Omega.{arith}
use mathlib.Core.Path.{◌≡◌, ◌∙◌}
use borrow.Author.Tests.{le-leb, lt-leb}
use Rattle.rules.proofs.pgn_range.find_range.Goals as goal

abbrev beyond : Range
beyond = record { start = 0; end = 0; kind = Single }

-- a table from row j on
module _ (rs : List Range) (n j : ℕ) where
  hit : j < length rs → n ≤ (get_or rs j beyond).end → find_range (map range_of (drop j rs)) n ≡ Some (range_of (get_or rs j beyond))
  unfolding find_range
  hit h e = rw (drop-cons rs j beyond h, le-leb _ _ e)

  missed : j < length rs → (get_or rs j beyond).end < n → find_range (map range_of (drop j rs)) n ≡ find_range (map range_of (drop (j + 1) rs)) n
  unfolding find_range
  missed h e = rw (add-one j, drop-cons rs j beyond h, lt-leb _ _ e)

  ended : length rs ≤ j → find_range (map range_of (drop j rs)) n ≡ None
  unfolding find_range
  ended h = let x = drop_of_length-le rs {i = j} h in rw x

pub returns-then-pgn-range : goal.returns-then-pgn-range
returns-then-pgn-range c =
    rw (← c.table-range-items.ensures)
    (c.loop-range.invariant ∙ hit c.table-range-items.result.now _ c.loop-range.range-index (omega (arith, c)) c.if-pgn-range.true)

pub loop-range-preserved : goal.loop-range-preserved
loop-range-preserved c = c.loop-range.invariant ∙ missed c.table-range-items.result.now _ c.loop-range.range-index (omega (arith, c)) c.if-pgn-range.false

pub returns : goal.returns
returns c =
    rw (← c.table-range-items.ensures)
    (c.loop-range.invariant ∙ ended c.table-range-items.result.now _ c.loop-range.range-index (omega (arith, c)))
