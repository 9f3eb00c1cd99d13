use Rattle.rules.proofs.Fields.{order_fits}
use Rattle.walk.proofs.Tests.{and_l}
use Rattle.walk.specs.Layout.{layout, sets_hold}
use Rattle.walk.specs.declared.named.FoundPgn.{FoundPgn}
use Rattle.rules.specs.DynamicLength.{length_source}
use Rattle.rules.specs.SearchLaws.{any_hit}
use native.Mathlib.Numerals.{add-one}
use Prim.Native.Nat.{ℕ, suc, ◌+◌}
use mathlib.Core.Path.{◌≡◌, sym, ◌∙◌, ap}
use mathlib.Core.Bool.{Bool, ◌&&◌}
use Rattle.pack.specs.Loaded.{pgn_value}
use Rattle.pack.specs.Meaning.{pack_of}
use Rattle.pack.specs.Value.{field_at}
use Rattle.walk.proofs.stops.length_giver.Invariants.{gives_at}
use Rattle.walk.proofs.stops.length_giver.Goals as goal

module _ (f : FoundPgn) where
  abbrev is_source : ℕ → Bool
  is_source j = length_source (pack_of f.pgn.pack.bytes.now).fieldtypes (field_at (pgn_value f.pgn) j)

  said : (k j own : ℕ) (r : Bool) → own ≡ k + 1 → r ≡ (is_source j && sets_hold (layout (pgn_value f.pgn)) (suc j) own) → gives_at f k j ≡ r
  said k j own r o h = sym (h ∙ ap (λ (n : ℕ). is_source j && sets_hold (layout (pgn_value f.pgn)) (suc j) n) (o ∙ add-one k))

pub order-own-requires : goal.order-own-requires
order-own-requires c = order_fits c.args.found.now.pgn c.args.k c.requires

pub returns-then-gives_length : goal.returns-then-gives_length
returns-then-gives_length c =
    let f = c.args.found.now in let k = c.args.k in let j = c.loop-j.j in
    let h = said f k j c.order-own.result.0 c.gives_length.result c.order-own.ensures c.gives_length.ensures ∙ c.if-gives_length.true in
    record {
      given = sym (any_hit (gives_at f k) k j c.loop-j-test.true h);
      source = record {
        before = c.loop-j-test.true;
        source = and_l (is_source f j) (sets_hold (layout (pgn_value f.pgn)) (suc j) (suc k)) h;
      };
    }
