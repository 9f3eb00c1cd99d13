-- What an accepting `load` gives the layers above: a ready work list, the index of the pack's value, and bounds.
use Rattle.std.specs.Prelude.{Result, Ok, Err}
use Rattle.pack.specs.declared.load.Refusal.{Refusal}
use Rattle.std.specs.Prelude.{if◌then◌else◌}
use Prim.Native.Nat.{ℕ, zero, suc, ◌<◌}
use native.Mathlib.Omega.{arith}
use mathlib.Core.Path.{◌≡◌, refl, ◌∙◌, sym}
use mathlib.Core.List.{List}
use mathlib.Core.Bool.{Bool, true, false}
use lib.ListN.{length, drop}
use lib.Seq.{take-append_seam}
use Rattle.pack.specs.Notation.{◌≤ᵇ◌}
use Rattle.pack.specs.Value.{pgns_of}
use Rattle.pack.specs.Format.{type_list, offsets}
use Rattle.pack.specs.Load.{Verdict, refused, accepted, verdict, load_index, loaded, work_after}
use Rattle.pack.specs.Meaning.{pack_of, Reading, refused_by, holds, read}
use Rattle.pack.specs.Ready.{Ready, IndexIs, place_of_tree}
use Rattle.pack.specs.Trees.{protocol_of, section_of}
use Rattle.pack.specs.declared.load.Index.{Index}
use Rattle.pack.specs.declared.load.Refusal.TheVariants.{Work}
use Rattle.pack.proofs.Values.{types_are, lookups_are, pgns_are, length_types, tree_place}

pub index_law : (s : List ℕ) → IndexIs (pack_of s) (load_index s)
unfolding load_index
index_law s =
    record {
      types = sym (types_are s);
      lookups = record { count = sym (lookups_are s); place = length_types s (type_list s).next (type_list s).value ∙ sym (types_are s) };
      trees = λ t h. record { count = counts t h; place = places t h };
    }
  where
    counts : (t : ℕ) → t < 3 → (section_of (protocol_of t) (load_index s)).count ≡ length (pgns_of (pack_of s) t)
    counts zero h = sym (pgns_are s 0 h)
    counts (suc zero) h = sym (pgns_are s 1 h)
    counts (suc (suc zero)) h = sym (pgns_are s 2 h)
    counts (suc (suc (suc t))) h = absurd (omega arith)

    places : (t : ℕ) → t < 3 → (section_of (protocol_of t) (load_index s)).place ≡ place_of_tree (pack_of s) t
    places zero h = sym (tree_place s 0 (omega arith))
    places (suc zero) h = sym (tree_place s 1 (omega arith))
    places (suc (suc zero)) h = sym (tree_place s 2 (omega arith))
    places (suc (suc (suc t))) h = absurd (omega arith)

-- what was loaded is ready
pub load_law : (s w : List ℕ) (i : Index) → loaded s (length w) ≡ Ok i → Ready s (work_after s w) × (i ≡ load_index s)
unfolding loaded work_after
load_law s w i e = go (verdict s) refl ((load_index s).records ≤ᵇ length w) refl
  where
    go : (v : Verdict) → verdict s ≡ v → (b : Bool) → ((load_index s).records ≤ᵇ length w) ≡ b → Ready s (work_after s w) × (i ≡ load_index s)
    go (refused r) x b y = let z : Err r ≡ Ok i = rw x at e in let u : ◌≡◌ {A = ℕ} 0 1 = cc in absurd (omega arith)
    go accepted x true y =
        let z : Ok (load_index s) ≡ Ok i = rw (x, y) at e in
        (record { accepted = x; begins = (rw (x, y) (take-append_seam (offsets s) (drop (length (offsets s)) w))) }, cc)
    go accepted x false y = let u : ◌≡◌ {A = ℕ} 0 1 = (let z = rw (x, y) at e in cc) in absurd (omega arith)

-- what `load` answers is what reading gives, and 21
abbrev pub read_answer : Reading → Index → ℕ → Result Index Refusal
read_answer (refused_by r) i m = Err r
read_answer (holds P os) i m = if length os ≤ᵇ m then Ok i else Err (Work (length os))

pub read_law : (s : List ℕ) (m : ℕ) → loaded s m ≡ read_answer (read s) (load_index s) m
unfolding loaded read load_index
read_law s m = go (verdict s) refl
  where
    go : (v : Verdict) → verdict s ≡ v → loaded s m ≡ read_answer (read s) (load_index s) m
    go (refused r) e = rw e
    go accepted e = rw e
