-- Where a record stands and nothing in it is refused, the reader answers it.
use Rattle.std.specs.Prelude.{ℕ, ◌≡◌, List, Result, Ok, get_or}
use mathlib.Core.Path.{◌∙◌}
use borrow.Author.Tests.{eq-eqb}
use Rattle.pack.specs.Items.{Item, Form, fresh}
use Rattle.pack.specs.Reads.{outcome, Reads}
use Rattle.pack.specs.declared.reader.InputRefusal.{InputRefusal}
use Rattle.pack.specs.declared.reader.Reader.{Reader}
use Rattle.pack.specs.Ready.{Stands}

outcome_clean : {A : Type 0} (i : Item A) → i.next.refused ≡ 0 → outcome i ≡ Ok i.value
outcome_clean i z = rw (eq-eqb _ _ z)

module _ {A : Type 0} (form : Form A) {s w : List ℕ} {p : ℕ} where
  pub outcome_there : (r : Reader) {q : Result A InputRefusal} → Stands s w p (λ c. (form s c).next) → r.bytes.now ≡ s → r.at ≡ get_or w p 0
      → q ≡ outcome (form r.bytes.now (fresh r.at)) → q ≡ Ok (form s (fresh (get_or w p 0))).value
  outcome_there r {q} st b a e = e ∙ (rw (b, a) (outcome_clean (form s (fresh (get_or w p 0))) st.clean))

  pub reads_there : {r r' : Reader} {q : Result A InputRefusal} → Stands s w p (λ c. (form s c).next) → r.bytes.now ≡ s → r.at ≡ get_or w p 0
      → Reads r form q r' → q ≡ Ok (form s (fresh (get_or w p 0))).value
  reads_there {r} st b a d = outcome_there r st b a d.answer
