-- What `load` answers, case by case.
use Rattle.std.specs.Prelude.{Result, Ok, Err}
use Rattle.pack.specs.declared.load.Refusal.{Refusal}
use Rattle.pack.specs.declared.load.Index.{Index}
use Prim.Native.Nat.{ℕ, ◌≤◌, ◌<◌}
use mathlib.Core.Path.{◌≡◌}
use mathlib.Core.List.{List}
use borrow.Author.Tests.{eq-eqb, ne_eqb, lt-ltb, le-ltb, le-leb, lt-leb}
use lib.ListN.{length}
use Rattle.pack.specs.Format.{pack_end, offsets}
use Rattle.pack.specs.Reads.{refusal_of}
use Rattle.pack.specs.Load.{over, most_bytes, refused, accepted, verdict, load_index, loaded, work_after}
use Rattle.pack.specs.declared.load.Refusal.TheVariants.{Input, TooLong, Work}

-- the answer, and the work buffer w after it
pub record Answers (s w : List ℕ) (r : Result Index Refusal) (w' : List ℕ) : Type 0 where
  pub answer : r ≡ loaded s (length w)
  pub work : w' ≡ work_after s w

module _ (s w : List ℕ) where
  pub too_long : most_bytes < length s → Answers s w (Err TooLong) w
  unfolding loaded verdict work_after
  too_long h = record { answer = (rw (lt-ltb most_bytes (length s) h)); work = (rw (lt-ltb most_bytes (length s) h)) }

  module _ (h : length s ≤ most_bytes) where
    pub verdict_refused : ((pack_end s).refused ≡ 0 → ⊥) → verdict s ≡ refused (Input (refusal_of (pack_end s)))
    unfolding verdict
    verdict_refused n = rw (le-ltb most_bytes (length s) h, ne_eqb _ _ n)

    pub verdict_accepted : (pack_end s).refused ≡ 0 → verdict s ≡ accepted
    unfolding verdict
    verdict_accepted z = rw (le-ltb most_bytes (length s) h, eq-eqb _ _ z)

    pub input_refused : ((pack_end s).refused ≡ 0 → ⊥) → Answers s w (Err (Input (refusal_of (pack_end s)))) w
    unfolding loaded work_after
    input_refused n = let v = verdict_refused n in record { answer = (rw v); work = (rw v) }

    pub work_short : (pack_end s).refused ≡ 0 → length w < length (offsets s) → Answers s w (Err (Work (length (offsets s)))) w
    unfolding loaded work_after load_index
    work_short z l =
        let v = verdict_accepted z in
        let e = lt-leb (length (offsets s)) (length w) l in
        record { answer = (rw (v, e)); work = (rw (v, e)) }

    pub loads : (pack_end s).refused ≡ 0 → length (offsets s) ≤ length w → Answers s w (Ok (load_index s)) (over (offsets s) w)
    unfolding loaded work_after load_index
    loads z l =
        let v = verdict_accepted z in
        let e = le-leb (length (offsets s)) (length w) l in
        record { answer = (rw (v, e)); work = (rw (v, e)) }
