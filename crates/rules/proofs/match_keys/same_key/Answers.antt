use Rattle.rules.specs.declared.match_keys.MatchKey.{MatchKey}
use lib.ListN.{length}
use Rattle.pack.specs.Loaded.{pgn_value}
use Rattle.pack.specs.Value.{Pgn}
use Rattle.rules.specs.MatchKeys.{pieces_from, to_come, Before}
use Rattle.rules.proofs.MatchKeys.{nothing_before}
use native.Mathlib.Omega.{arith}
use Prim.Native.Nat.{ℕ}
use mathlib.Core.Path.{◌≡◌}
use mathlib.Core.List.{List}
use Rattle.pack.specs.Notation.{◌≐◌}
use Rattle.rules.proofs.match_keys.same_key.Goals as goal

-- nothing taken yet
none_yet : (s w : List ℕ) (p q : Pgn) (a b : MatchKey) → Before 0 a → Before 0 b
    → (pieces_from p 0 (length p.fields) ≐ pieces_from q 0 (length q.fields)) ≡ (to_come s p a ≐ to_come w q b)
none_yet s w p q a b x y = rw (nothing_before s p a x.written x.text x.field, nothing_before w q b y.written y.text y.field)

pub loop-x-init : goal.loop-x-init
loop-x-init c =
    let g = c.args.pgn.now in let h = c.args.other.now in
    record {
      left = record { field = omega (arith, c.before-a.ensures.field) };
      right = record { field = omega (arith, c.before-b.ensures.field) };
      rest = none_yet g.pack.bytes.now h.pack.bytes.now (pgn_value g) (pgn_value h) c.before-a.result c.before-b.result
          c.before-a.ensures c.before-b.ensures;
    }
