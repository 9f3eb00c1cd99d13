use Rattle.std.specs.Option.{option_map}
use Rattle.std.specs.Prelude.{Option, Some, ◌==◌}
use Rattle.rules.proofs.Emits.{emitted_append}
use Rattle.rules.specs.PgnRange.{ranges_of, find_range, found_range}
use Rattle.rules.specs.Pdu1.{pdu1, pdu1_step, range_of}
use Rattle.rules.specs.Findings.{report_if, pgn_error}
use Rattle.rules.specs.declared.pgn_range.Range.{Range}
use Rattle.rules.specs.declared.Finding.{Finding}
use mathlib.Core.Bool.{not, ◌&&◌, ◌||◌, Bool}
use Rattle.pack.specs.Kinds.{message_type_number}
use Rattle.pack.specs.Loaded.{tree_of}
use Rattle.pack.specs.Value.{Pgn}
use Rattle.pack.specs.Ready.{PgnIs}
use Rattle.pack.specs.declared.pgn.PgnView.{PgnView}
use Prim.Native.Nat.{ℕ, ◌%◌, ◌≤◌}
use mathlib.Core.Path.{◌≡◌, ap, ◌∙◌}
use mathlib.Core.List.{List, ◌++◌}
use borrow.Author.Tests.{le-ltb}
use Rattle.rules.proofs.pgn_range.found_range.Goals as goal

-- in the range, said of the view
inside : (s : List ℕ) (t i : ℕ) (G : Pgn) (g : PgnView) → PgnIs s G g → (o : Option Range) (r : Range)
    → find_range (ranges_of t) g.pgn ≡ option_map range_of o → o ≡ Some r → r.start ≤ g.pgn → (a b : Bool) (f h : Finding)
    → a ≡ (pdu1 g.pgn && not (g.pgn % 256 == 0)) → f ≡ pgn_error 2 5 t i 0 0
    → b ≡ not ((message_type_number r.kind == message_type_number g.kind) || (message_type_number r.kind == 3) || (message_type_number g.kind == 2))
    → h ≡ pgn_error 2 6 t i 0 0
    → found_range t i G (find_range (ranges_of t) g.pgn) ≡ report_if a f ++ report_if b h
unfolding found_range
inside s t i G g is o r found e l a b f h x y z w =
    let q : find_range (ranges_of t) g.pgn ≡ Some (range_of r) = found ∙ ap (option_map range_of) e in
    rw (q, ← is.means, le-ltb _ _ l, pdu1_step t g.pgn (range_of r) q l, x, y, z, w)

pub returns : goal.returns
returns c =
    let g = c.args.pgn.now in
    rw (inside g.pack.bytes.now (tree_of g) g.item _ g.view g.is _ _ c.requires c.in-Some.is c.if-pgn-range.false _ _ _ _
    c.pdu1_unended-unended.ensures c.pgn_error-2.ensures c.disagrees-other.ensures c.pgn_error-3.ensures)
    (emitted_append c.put_if.ensures c.put_if-2.ensures)
