-- Loops over an accepted pack's lookups, or a tree's PGNs, that report or search.
use Rattle.std.specs.Prelude.{None, Some}
use Prim.Native.Nat.{ℕ, zero, suc, ◌<◌}
use native.Mathlib.Omega.{arith}
use mathlib.Core.Bool.{Bool, true, false}
use mathlib.Core.Path.{◌≡◌, refl, ap, ◌∙◌, sym}
use mathlib.Core.List.{List, [], ◌∷◌, ◌++◌}
use lib.ListN.{length, get_or}
use Rattle.pack.specs.Loaded.{lookup_spot, pgn_spot, lookups_left, pgns_left}
use Rattle.pack.specs.Meaning.{pack_of}
use Rattle.pack.specs.Notation.{concat_below}
use Rattle.pack.specs.Trees.{tree_number}
use Rattle.pack.specs.Value.{pgns_of}
use Rattle.pack.specs.declared.protocol.Protocol.TheVariants.{Nmea2000, J1939, Quick}
use Rattle.pack.specs.declared.loaded.Lookups.{Lookups}
use Rattle.pack.specs.declared.loaded.LookupRef.{LookupRef}
use Rattle.pack.specs.declared.loaded.Pgns.{Pgns}
use Rattle.pack.specs.declared.loaded.PgnRef.{PgnRef}
use Rattle.pack.proofs.Turns.{LookupTurn, LookupsGiven, lookups_turn, lookups_given, PgnTurn, PgnsGiven, pgns_turn, pgns_given}
use Rattle.rules.specs.declared.Finding.{Finding}
use Rattle.rules.specs.declared.emit.Findings.{Findings}
use Rattle.rules.specs.Emit.{Emitted}
use Rattle.rules.specs.Search.{any_below, first_below}
use Rattle.rules.specs.SearchLaws.{any_turn, any_hit, any_missed, first_hit}
use Rattle.rules.proofs.Emits.{emitted_turn}
use Rattle.rules.proofs.PgnSearches.{one_more}

-- the invariant: the PGNs ys of tree t were given, what they say was found, and d gives the others
pub record OverPgns (o : Findings) (s w : List ℕ) (t : ℕ) (turn : ℕ → List Finding) (ys : List PgnRef) (d : Pgns) (o' : Findings) : Type 0 where
  pub given : PgnsGiven s w t (length (pgns_of (pack_of s) t)) (length ys) d
  pub emitted : Emitted o (concat_below turn (length ys)) o'

pub pgns_reported : {o o' o'' : Findings} {s w : List ℕ} {t : ℕ} {turn : ℕ → List Finding} {ys : List PgnRef} {d : Pgns} (x : PgnRef) (e : Pgns)
    → OverPgns o s w t turn ys d o' → pgns_left d ≡ pgn_spot x ∷ pgns_left e
    → (PgnTurn s w t (length ys) (length (pgns_of (pack_of s) t)) x (pgns_left e) → Emitted o' (turn (length ys)) o'')
    → OverPgns o s w t turn (ys ++ x ∷ []) e o''
pgns_reported {turn = turn} {ys = ys} x e p h own =
    let u = pgns_turn x e p.given h in
    record { given = (rw (one_more ys x) u.1); emitted = (rw (one_more ys x) (emitted_turn turn (length ys) p.emitted (own u.0))) }

pub all_pgns : {o o' : Findings} {s w : List ℕ} {t : ℕ} {turn : ℕ → List Finding} {ys : List PgnRef} {d : Pgns}
    → OverPgns o s w t turn ys d o' → pgns_left d ≡ [] → Emitted o (concat_below turn (length (pgns_of (pack_of s) t))) o'
all_pgns p h = rw (← pgns_given p.given h) p.emitted

-- the same of lookups
pub record OverLookups (o : Findings) (s w : List ℕ) (turn : ℕ → List Finding) (ys : List LookupRef) (d : Lookups) (o' : Findings) : Type 0 where
  pub given : LookupsGiven s w (length (pack_of s).lookups) (length ys) d
  pub emitted : Emitted o (concat_below turn (length ys)) o'

pub lookups_reported : {o o' o'' : Findings} {s w : List ℕ} {turn : ℕ → List Finding} {ys : List LookupRef} {d : Lookups} (x : LookupRef) (e : Lookups)
    → OverLookups o s w turn ys d o' → lookups_left d ≡ lookup_spot x ∷ lookups_left e
    → (LookupTurn s w (length ys) (length (pack_of s).lookups) x (lookups_left e) → Emitted o' (turn (length ys)) o'')
    → OverLookups o s w turn (ys ++ x ∷ []) e o''
lookups_reported {turn = turn} {ys = ys} x e p h own =
    let u = lookups_turn x e p.given h in
    record { given = (rw (one_more ys x) u.1); emitted = (rw (one_more ys x) (emitted_turn turn (length ys) p.emitted (own u.0))) }

pub all_lookups : {o o' : Findings} {s w : List ℕ} {turn : ℕ → List Finding} {ys : List LookupRef} {d : Lookups}
    → OverLookups o s w turn ys d o' → lookups_left d ≡ [] → Emitted o (concat_below turn (length (pack_of s).lookups)) o'
all_lookups p h = rw (← lookups_given p.given h) p.emitted

-- ---- searches

first_none : (p : ℕ → Bool) (n : ℕ) → ((k : ℕ) → k < n → p k ≡ false) → first_below p n ≡ None
first_none p zero h = refl
first_none p (suc n) h = rw (first_none p n (λ k l. h k (omega arith)), h n (omega arith))

-- the invariant: the lookups ys were given, none of them has p, and d gives the others
pub record NoneOfLookups (s w : List ℕ) (p : ℕ → Bool) (ys : List LookupRef) (d : Lookups) : Type 0 where
  pub given : LookupsGiven s w (length (pack_of s).lookups) (length ys) d
  pub none_yet : any_below p (length ys) ≡ false

module _ {s w : List ℕ} {p : ℕ → Bool} {ys : List LookupRef} {d : Lookups} (a : NoneOfLookups s w p ys d) where
  pub lookup_missed : (x : LookupRef) (e : Lookups) → lookups_left d ≡ lookup_spot x ∷ lookups_left e
      → (LookupTurn s w (length ys) (length (pack_of s).lookups) x (lookups_left e) → p (length ys) ≡ false) → NoneOfLookups s w p (ys ++ x ∷ []) e
  lookup_missed x e h own =
      let u = lookups_turn x e a.given h in
      record { given = (rw (one_more ys x) u.1); none_yet = (rw (one_more ys x, any_turn p (length ys), a.none_yet) (own u.0)) }

  pub lookup_hit : (x : LookupRef) (e : Lookups) → lookups_left d ≡ lookup_spot x ∷ lookups_left e
      → (LookupTurn s w (length ys) (length (pack_of s).lookups) x (lookups_left e) → p (length ys) ≡ true)
      → any_below p (length (pack_of s).lookups) ≡ true
  lookup_hit x e h own =
      let u = lookups_turn x e a.given h in
      any_hit p (length (pack_of s).lookups) (length ys) u.0.inside (own u.0)

  pub lookup_hit_first : (x : LookupRef) (e : Lookups) → lookups_left d ≡ lookup_spot x ∷ lookups_left e
      → (LookupTurn s w (length ys) (length (pack_of s).lookups) x (lookups_left e) → p (length ys) ≡ true)
      → first_below p (length (pack_of s).lookups) ≡ Some x.item
  lookup_hit_first x e h own =
      let u = lookups_turn x e a.given h in
      first_hit p (length (pack_of s).lookups) (length ys) u.0.inside (first_none p (length ys) (any_missed p (length ys) a.none_yet)) (own u.0)
      ∙ ap Some (sym u.0.item)

  pub no_lookup : lookups_left d ≡ [] → any_below p (length (pack_of s).lookups) ≡ false
  no_lookup h = rw (← lookups_given a.given h) a.none_yet

  pub no_lookup_first : lookups_left d ≡ [] → first_below p (length (pack_of s).lookups) ≡ None
  no_lookup_first h = first_none p (length (pack_of s).lookups) (any_missed p (length (pack_of s).lookups) (no_lookup h))

-- ---- the trees

pub tree_turn : (k : ℕ) → k < 3 → tree_number (get_or (Nmea2000 ∷ J1939 ∷ Quick ∷ []) k Nmea2000) ≡ k
tree_turn zero h = refl
tree_turn (suc zero) h = refl
tree_turn (suc (suc zero)) h = refl
tree_turn (suc (suc (suc k))) h = absurd (omega arith)
