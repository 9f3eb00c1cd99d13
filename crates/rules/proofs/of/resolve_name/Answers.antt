use Rattle.std.specs.Prelude.{◌==◌, if◌then◌else◌, None, Some}
use Rattle.rules.specs.Model.{find_lookup, fieldtypes, pairs, value_named, resolve_in, resolve_name}
use Rattle.pack.specs.Kinds.{kind_number}
use Rattle.pack.specs.Meaning.{reference_meaning, pack_of}
use Rattle.pack.specs.Items.{bytes_of}
use Rattle.pack.specs.Value.{Bytes, Entry, Lookup, Reference, lookup_at}
use mathlib.Core.Bool.{◌||◌, Bool, true, false}
use Prim.Native.Nat.{ℕ}
use mathlib.Core.Path.{◌≡◌, refl, ap}
use mathlib.Core.List.{List, []}
use Rattle.rules.proofs.of.resolve_name.Goals as goal

module _ (ls : List Lookup) (m : Bytes) (r : Reference) where
  unknown : None ≡ find_lookup ls r.name → None ≡ resolve_name ls m (Some r)
  unfolding resolve_name resolve_in
  unknown e = rw (← e)

  cut : (b : Bool) (es : List Entry) → value_named (if b then es else []) m ≡ (if b then value_named es m else None)
  unfolding value_named
  cut true es = refl
  cut false es = refl

  known : (l k : ℕ) (b : Bool) → Some l ≡ find_lookup ls r.name → k ≡ (lookup_at ls l).kind
      → b ≡ (if r.kind == 3 then k == 3 else ((k == 0) || (k == 2)))
      → resolve_name ls m (Some r) ≡ (if b then value_named (lookup_at ls l).entries m else None)
  unfolding resolve_name resolve_in fieldtypes pairs
  known l k b e f x = rw (← e, x, f) (go (r.kind == 3))
    where
      go : (c : Bool)
          → value_named (if c then fieldtypes (lookup_at ls l) else pairs (lookup_at ls l)) m
          ≡ (if (if c then (lookup_at ls l).kind == 3 else (((lookup_at ls l).kind == 0) || ((lookup_at ls l).kind == 2))) then value_named
          (lookup_at ls l).entries m else None)
      go true = cut ((lookup_at ls l).kind == 3) (lookup_at ls l).entries
      go false = cut (((lookup_at ls l).kind == 0) || ((lookup_at ls l).kind == 2)) (lookup_at ls l).entries

pub returns-in_err-r : goal.returns-in_err-r
unfolding resolve_name
returns-in_err-r c = rw (c.from_residual.ensures, c.in_err-r.was)

pub returns-in_err-lookup : goal.returns-in_err-lookup
returns-in_err-lookup c =
    let s = c.args.s.now in
    rw (c.from_residual-in_err-lookup.ensures, c.in_ok-r.was)
    (unknown (pack_of s).lookups (bytes_of s c.args.m) (reference_meaning s c.in_ok-r.r) c.in_err-lookup.ensures.found)

pub returns-then-not-has_entries : goal.returns-then-not-has_entries
returns-then-not-has_entries c =
    let s = c.args.s.now in
    let l = c.in_ok-lookup.lookup in
    let e = known (pack_of s).lookups (bytes_of s c.args.m) (reference_meaning s c.in_ok-r.r) l.item (kind_number l.view.kind) c.has_entries.result
    c.in_ok-lookup.ensures.found (ap (λ (L : Lookup). L.kind) c.in_ok-lookup.ensures.there.is.means) c.has_entries.ensures in
    rw (c.in_ok-r.was, e, c.if-not-has_entries.true)

pub returns : goal.returns
returns c =
    let s = c.args.s.now in
    let l = c.in_ok-lookup.lookup in
    let e = known (pack_of s).lookups (bytes_of s c.args.m) (reference_meaning s c.in_ok-r.r) l.item (kind_number l.view.kind) c.has_entries.result
    c.in_ok-lookup.ensures.found (ap (λ (L : Lookup). L.kind) c.in_ok-lookup.ensures.there.is.means) c.has_entries.ensures in
    rw (c.in_ok-r.was, e, c.if-not-has_entries.false) c.value_named.ensures
