use Rattle.std.specs.Prelude.{is_some, IfSome, option_map}
use Rattle.std.specs.Prelude.{if◌then◌else◌}
use borrow.Author.Tests.{lt-ltb, le-ltb, leb-true, leb-false}
use Rattle.pack.specs.Loaded.{tree_of, pgn_value}
use Rattle.pack.specs.Value.{Pgn, no_pgn}
use Rattle.pack.specs.declared.loaded.PgnRef.{PgnRef}
use Rattle.rules.specs.declared.spn_names.Carrier.{Carrier}
use Rattle.rules.specs.Namers.{NamesAmong, comes_after}
use Rattle.rules.specs.SpnNames.{spn_field}
use Rattle.rules.specs.SearchLaws.{least_turn}
use Rattle.rules.specs.Search.{lower_key, least_below}
use native.Mathlib.Omega.{arith}
use Prim.Native.Nat.{ℕ, ◌+◌, ◌≤◌, ◌<◌}
use mathlib.Core.Path.{◌≡◌, refl, sym, ◌∙◌, ap}
use mathlib.Core.Bool.{Bool, true, false, false≢true}
use mathlib.Core.List.{List}
use Rattle.std.specs.Prelude.{Option, None, Some}
use lib.ListN.{get_or}
use Rattle.pack.specs.Meaning.{pack_of}
use Rattle.rules.proofs.spn_names.better.Goals as goal

-- a turn: the one before stays, since it comes first, or since PGN j does not carry the SPN; or PGN j is the better one
stays : (key : ℕ → ℕ) (j m : ℕ) (o : Option ℕ) (b : Bool) → o ≡ Some m → key m ≤ key j → (if b then Some (lower_key key o j) else o) ≡ o
stays key j m o true e h = ap (λ (x : Option ℕ). Some (lower_key key x j)) e ∙ (rw (le-ltb (key j) (key m) h, e))
stays key j m o false e h = refl

taken : (key : ℕ → ℕ) (j : ℕ) (o : Option ℕ) (b : Bool) → b ≡ true → IfSome o (λ m. key j < key m)
    → (if b then Some (lower_key key o j) else o) ≡ Some j
taken key j None b e h = rw e
taken key j (Some m) b e h = rw (e, lt-ltb (key j) (key m) h)

unmet : (key : ℕ → ℕ) (j : ℕ) (o : Option ℕ) (b : Bool) → b ≡ false → (if b then Some (lower_key key o j) else o) ≡ o
unmet key j o b e = rw e

abbrev number_of : List ℕ → ℕ → ℕ
number_of s i = (get_or (pack_of s).pgns_j1939 i no_pgn).pgn

abbrev has : List ℕ → ℕ → ℕ → Bool
has s spn i = is_some (spn_field (get_or (pack_of s).pgns_j1939 i no_pgn) spn)

number_is : (s : List ℕ) (x : PgnRef) → x.pack.bytes.now ≡ s → tree_of x ≡ 1 → x.view.pgn ≡ number_of s x.item
number_is s x b t = rw (b, t) at (ap (λ (G : Pgn). G.pgn) x.is.means)

module _ (g : PgnRef) (tree : tree_of g ≡ 1) (spn : ℕ) (best : Option Carrier) (a : NamesAmong g.pack.bytes.now spn g.item best) where
  as_before : least_below (number_of g.pack.bytes.now) (has g.pack.bytes.now spn) (g.item + 1)
      ≡ least_below (number_of g.pack.bytes.now) (has g.pack.bytes.now spn) g.item → NamesAmong g.pack.bytes.now spn (g.item + 1) best
  as_before e = record { least = a.least ∙ sym e; is = a.is }

  stays_unmet : None ≡ spn_field (pgn_value g) spn → NamesAmong g.pack.bytes.now spn (g.item + 1) best
  stays_unmet h =
      let s = g.pack.bytes.now in
      as_before (least_turn (number_of s) (has s spn) g.item
      ∙ unmet (number_of s) g.item (least_below (number_of s) (has s spn) g.item) (has s spn g.item) (ap is_some (sym (rw tree at h))))

  -- the PGN is of a lower number
  is_better : (IfSome (option_map (λ m. m.pgn.item) best) (λ i. number_of g.pack.bytes.now g.item < number_of g.pack.bytes.now i))
      → (x : ℕ) → Some x ≡ spn_field (pgn_value g) spn → NamesAmong g.pack.bytes.now spn (g.item + 1) (Some (record { pgn = g; field = x }))
  is_better low x h =
      let s = g.pack.bytes.now in let j = g.item in
      let turn = taken (number_of s) j (option_map (λ m. m.pgn.item) best) (has s spn j) (ap is_some (sym (rw tree at h))) low in
      let old = ap (λ (o : Option ℕ). if has s spn j then Some (lower_key (number_of s) o j) else o) a.least in
      record {
        least = sym (least_turn (number_of s) (has s spn) j ∙ sym old ∙ turn);
        is = record { bytes = refl; tree = tree; field = sym h };
      }

module _ (g : PgnRef) (tree : tree_of g ≡ 1) (spn : ℕ) where
  first_stays : (best : Option Carrier) → NamesAmong g.pack.bytes.now spn g.item best → comes_after best g.view.pgn ≡ true
      → NamesAmong g.pack.bytes.now spn (g.item + 1) best
  first_stays None a e = absurd (false≢true e)
  first_stays (Some m) a e =
      let s = g.pack.bytes.now in let j = g.item in
      let l : number_of s m.pgn.item ≤ number_of s j =
      omega (arith, leb-true m.pgn.view.pgn g.view.pgn e, number_is s m.pgn a.is.bytes a.is.tree, number_is s g refl tree) in
      as_before g tree spn (Some m) a
      (least_turn (number_of s) (has s spn) j
      ∙ stays (number_of s) j m.pgn.item (least_below (number_of s) (has s spn) j) (has s spn j) (sym a.least) l)

  lower : (best : Option Carrier) → NamesAmong g.pack.bytes.now spn g.item best → comes_after best g.view.pgn ≡ false
      → IfSome (option_map (λ m. m.pgn.item) best) (λ i. number_of g.pack.bytes.now g.item < number_of g.pack.bytes.now i)
  lower None a e = tt
  lower (Some m) a e =
      let s = g.pack.bytes.now in
      omega (arith, leb-false m.pgn.view.pgn g.view.pgn e, number_is s m.pgn a.is.bytes a.is.tree, number_is s g refl tree)

pub returns-then-comes_after : goal.returns-then-comes_after
returns-then-comes_after c =
    first_stays c.args.pgn.now c.requires.tree c.args.spn c.args.best.now c.requires.names (sym c.comes_after.ensures ∙ c.if-comes_after.true)

pub returns-in_default : goal.returns-in_default
returns-in_default c = stays_unmet c.args.pgn.now c.requires.tree c.args.spn c.args.best.now c.requires.names c.in_default.ensures

pub returns : goal.returns
returns c =
    let g = c.args.pgn.now in let best = c.args.best.now in
    let low = lower g c.requires.tree c.args.spn best c.requires.names (sym c.comes_after.ensures ∙ c.if-comes_after.false) in
    is_better g c.requires.tree c.args.spn best c.requires.names low c.in-Some.field c.in-Some.ensures
