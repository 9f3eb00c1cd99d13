-- Kinds of one number are one; what the other kinds lack.
use native.Mathlib.Omega.{arith}
use mathlib.Core.Path.{◌≡◌, refl}
use Rattle.pack.specs.Items.{give}
use Prim.Native.Nat.{ℕ, zero, suc, ◌≤◌}
use Rattle.pack.specs.Kinds.{kind_number, kind_of, message_type_number, message_type_of}
use Rattle.pack.specs.Records.{read_first, no_kind_part, read_kind_part}
use Rattle.pack.specs.declared.kinds.LookupKind.{LookupKind}
use Rattle.pack.specs.declared.kinds.LookupKind.TheVariants.{Pair, Triplet, Bit, Fieldtype}

pub kind_once : (a b : LookupKind) → kind_number a ≡ kind_number b → a ≡ b
kind_once Pair Pair e = refl
kind_once Pair Triplet e = absurd (omega arith)
kind_once Pair Bit e = absurd (omega arith)
kind_once Pair Fieldtype e = absurd (omega arith)
kind_once Triplet Pair e = absurd (omega arith)
kind_once Triplet Triplet e = refl
kind_once Triplet Bit e = absurd (omega arith)
kind_once Triplet Fieldtype e = absurd (omega arith)
kind_once Bit Pair e = absurd (omega arith)
kind_once Bit Triplet e = absurd (omega arith)
kind_once Bit Bit e = refl
kind_once Bit Fieldtype e = absurd (omega arith)
kind_once Fieldtype Pair e = absurd (omega arith)
kind_once Fieldtype Triplet e = absurd (omega arith)
kind_once Fieldtype Bit e = absurd (omega arith)
kind_once Fieldtype Fieldtype e = refl

pub no_first : (k : LookupKind) → (k ≡ Triplet → ⊥) → read_first k ≡ give 0
unfolding read_first
no_first Pair h = refl
no_first Triplet h = absurd (h refl)
no_first Bit h = refl
no_first Fieldtype h = refl

pub none_behind : (k : LookupKind) → (k ≡ Fieldtype → ⊥) → read_kind_part k ≡ give no_kind_part
unfolding read_kind_part
none_behind Pair h = refl
none_behind Triplet h = refl
none_behind Bit h = refl
none_behind Fieldtype h = absurd (h refl)

-- the number that was read is the kind's
pub kind_kept : (n : ℕ) → n ≤ 3 → kind_number (kind_of n) ≡ n
kind_kept zero h = refl
kind_kept (suc zero) h = refl
kind_kept (suc (suc zero)) h = refl
kind_kept (suc (suc (suc zero))) h = refl
kind_kept (suc (suc (suc (suc n)))) h = absurd (omega arith)

pub type_kept : (n : ℕ) → n ≤ 3 → message_type_number (message_type_of n) ≡ n
type_kept zero h = refl
type_kept (suc zero) h = refl
type_kept (suc (suc zero)) h = refl
type_kept (suc (suc (suc zero))) h = refl
type_kept (suc (suc (suc (suc n)))) h = absurd (omega arith)
