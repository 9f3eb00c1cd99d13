use Rattle.std.specs.Prelude.{◌==◌}
use Rattle.rules.specs.Search.{any_below, sum_below}
use Rattle.pack.specs.Loaded.{pgn_value}
use Rattle.pack.specs.declared.loaded.PgnRef.{PgnRef}
use Rattle.pack.specs.Value.{field_at}
use Prim.Native.Nat.{ℕ, suc, ◌*◌, ◌≤◌}
use mathlib.Core.Path.{◌≡◌}
use mathlib.Core.Bool.{Bool, false}
use Rattle.rules.proofs.min_length.lands_on_boundary.Given as goal

-- the width of a field, and whether the fields up to it end at the boundary
abbrev pub width : PgnRef → ℕ → ℕ
width g j = (field_at (pgn_value g) j).res_bits

abbrev pub ends : PgnRef → ℕ → ℕ → Bool
ends g least k = sum_below (width g) (suc k) == least * 8

abbrev pub invariant-loop-k : goal.invariant-loop-k
invariant-loop-k l =
    record {
      turns : l.k ≤ l.fields;
      sum : l.bits ≡ sum_below (width l.pgn) l.k;
      small : l.bits ≤ l.k * 4294967295;
      none_yet : any_below (ends l.pgn l.least) l.k ≡ false;
    }
