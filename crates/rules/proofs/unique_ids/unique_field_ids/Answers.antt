use Rattle.std.specs.Bool.{then_some}
use Rattle.std.specs.Prelude.{is_some}
use Rattle.std.specs.Option.{option_or}
use Rattle.rules.specs.Search.{any_below, first_below}
use Rattle.rules.proofs.Emits.{reporting_turn}
use Rattle.rules.specs.Findings.{report_if, pgn_error}
use Rattle.rules.specs.declared.Finding.{Finding}
use Rattle.pack.specs.Items.{bytes_of}
use Rattle.pack.specs.Loaded.{tree_of, pgn_value}
use Rattle.pack.specs.Notation.{◌≐◌}
use Rattle.pack.specs.Value.{field_at}
use Rattle.pack.specs.declared.loaded.PgnRef.{PgnRef}
use Rattle.std.specs.Prelude.{Option, None, Some}
use mathlib.Core.Bool.{◌||◌, Bool, true, false}
use Prim.Native.Nat.{ℕ, zero, suc}
use mathlib.Core.Path.{◌≡◌, refl}
use mathlib.Core.List.{List}
use Rattle.rules.proofs.unique_ids.unique_field_ids.Invariants.{of_field}
use Rattle.rules.proofs.unique_ids.unique_field_ids.Goals as goal

any_first : (q : ℕ → Bool) (n : ℕ) → any_below q n ≡ is_some (first_below q n)
any_first q zero = refl
any_first q (suc n) = rw (any_first q n) (go (first_below q n) (q n))
  where
    go : (o : Option ℕ) (b : Bool) → (is_some o || b) ≡ is_some (option_or o (then_some b n))
    go None true = refl
    go None false = refl
    go (Some x) b = refl

said : (g : PgnRef) (k : ℕ) (id : List ℕ) (o : Option ℕ) (b : Bool) (F : Finding) → id ≡ (field_at (pgn_value g) k).id
    → o ≡ first_below (λ j. (field_at (pgn_value g) j).id ≐ id) k → b ≡ is_some o → F ≡ pgn_error 21 2 (tree_of g) g.item k 0
    → of_field g k ≡ report_if b F
said g k id o b F x y e z = rw (z, ← x, any_first (λ j. (field_at (pgn_value g) j).id ≐ id) k, ← y, e)

pub loop-k-preserved : goal.loop-k-preserved
loop-k-preserved c =
    let g = c.args.pgn.now in
    reporting_turn c.loop-k.invariant c.loop-k-test.true (rw (said g c.loop-k.k (bytes_of g.pack.bytes.now c.field_id-id.result) c.first_with_id-j.result
    c.is_some.result c.pgn_error.result c.field_id-id.ensures c.first_with_id-j.ensures c.is_some.ensures c.pgn_error.ensures)
    c.put_if.ensures)
